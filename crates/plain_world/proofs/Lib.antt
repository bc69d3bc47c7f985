mod Alike
mod Bases
mod Paths
mod Results
mod Starts
mod Worlds
