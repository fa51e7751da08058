mod Counting
mod Naming
