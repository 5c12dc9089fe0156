-- turned and reversed cycles
pub mod Turnings
-- lists compared point by point
pub mod ListOrders
-- the numbers of the classes of faces
pub mod OddNumbers
-- as many faces as numbers of odd sides
pub mod FaceNumbers
-- segments by the places of their numbers
pub mod PartLists
-- a number among ascending ones
pub mod KeyPlaces
-- the rims of faces
pub mod FaceRims
-- the one cycle between the face and a class
pub mod CycleRounds
-- the links of turned cycles
pub mod TurnedLinks
-- the borders of a face
pub mod FaceBounds
-- sorted lists of different lists
pub mod ListsApart
-- the faces of a region
pub mod FaceLists
