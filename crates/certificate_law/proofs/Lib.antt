-- what filters leave, and which ids are in a list
pub mod Filters
-- lines that take points out, and put points in
pub mod PointLines
-- lines that take originals out, and put originals in
pub mod OriginalLines
-- which originals a change takes away and adds
pub mod ChangedOriginals
-- what steps keep of originals
pub mod SettledOriginals
-- what a change keeps of a state
pub mod SteadyStates
-- that the lines of a change hold
pub mod ChangeLines
-- what a journal tells of its first state and its entries
pub mod Journals
-- that entries have one list of lines
pub mod OneCertificate
-- that a certificate is sound
pub mod SoundCertificate
