mod Computation
mod Numbers
mod Taken
