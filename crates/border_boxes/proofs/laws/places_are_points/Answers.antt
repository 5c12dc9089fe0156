use Rattle.border_boxes.proofs.PlacesInBoxes.{has_point}
use Rattle.border_boxes.proofs.laws.places_are_points.Goals as goal

-- a number is no less than another where so many times it is no less
pub returns : goal.returns
returns c = λ box p q real at has. has_point box p q real at has
