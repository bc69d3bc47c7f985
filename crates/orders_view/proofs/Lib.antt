mod Chosen
mod Forgets
