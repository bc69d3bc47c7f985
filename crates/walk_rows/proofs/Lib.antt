mod Driving
mod Halves
mod Sends
mod Staying
