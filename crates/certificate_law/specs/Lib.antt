-- the certificate of what the files of a store keep
pub mod Certificates
