-- links along the border of a class
pub mod ClassLinks
-- segments between classes, and cycles along links
pub mod ClassBorders
