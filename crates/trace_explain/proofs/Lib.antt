mod Joined
mod Spots
mod Waiting
mod TellLaws
mod Prints
