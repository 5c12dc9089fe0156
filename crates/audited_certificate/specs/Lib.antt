-- what an audit finds
pub mod Found
