mod Words
mod Steps
mod Rests
