pub mod formers
pub mod Characters
pub mod Counts
pub mod Digests
pub mod Names
pub mod Numbers
pub mod Printed
pub mod Words
