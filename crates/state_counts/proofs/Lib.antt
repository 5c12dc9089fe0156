-- how many originals have an id below a number
pub mod IdsBelow
