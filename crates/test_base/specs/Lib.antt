pub mod TwoCopies
