use Rattle.border_boxes.proofs.BoxesApart.{none_in_both, none_inside}
use Rattle.border_boxes.proofs.laws.boxes_part_places.Goals as goal

-- a column or a row would be past a side, and before the other box begins
pub returns-clause-beside : goal.returns-clause-beside
returns-clause-beside c = λ first second q beside in_first in_second. none_inside first second q beside in_first in_second

pub returns-clause-apart : goal.returns-clause-apart
returns-clause-apart c = λ first second q real apart in_first in_second. none_in_both first second q real apart in_first in_second
