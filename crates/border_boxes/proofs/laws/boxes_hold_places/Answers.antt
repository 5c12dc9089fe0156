use Rattle.border_boxes.proofs.OutsideBoxes.{interior_in_box, outer_off_inside, region_in_box}
use Rattle.border_boxes.proofs.PlacesInBoxes.{held_in_box}
use Rattle.border_boxes.proofs.laws.boxes_hold_places.Goals as goal

-- each segment is in the box
pub returns-clause-lines : goal.returns-clause-lines
returns-clause-lines c = λ box list q within on. held_in_box box list q within on

-- what is off the box is outer, and not odd
pub returns-clause-region : goal.returns-clause-region
returns-clause-region c = λ box border q within even point. region_in_box box border within q even point

pub returns-clause-interior : goal.returns-clause-interior
returns-clause-interior c = λ box border q within even point. interior_in_box box border within q even point

-- a step outward from a free place of the rim is free
pub returns-clause-outer : goal.returns-clause-outer
returns-clause-outer c = λ box list q within free off. outer_off_inside box list within q free off
