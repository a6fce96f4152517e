mod Ends
mod Planned
mod Bested
mod Shown
mod Solvable
