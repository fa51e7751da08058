mod Marks
mod Put
mod SaidSoFar
mod Searched
mod ToldLines
mod Verdicts
mod Written
