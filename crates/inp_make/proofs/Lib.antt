mod Ranges
mod Pushed
mod Counts
mod LinesKept
