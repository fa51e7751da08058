pub mod Words
pub mod HolderLaws
