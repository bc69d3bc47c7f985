mod Chosen
mod Joined
