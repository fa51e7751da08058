mod Rows
mod TreeRows
mod CauseRows
mod TimeRows
mod BadWorlds
mod KeptRows
mod GivingUpRows
