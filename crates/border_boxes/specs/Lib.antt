-- the least box that holds a border, and how boxes and places lie to one another
pub mod Boxes
