-- explicit points and originals that are listed
pub mod Listing
-- values that are listed with their names
pub mod NamedValues
