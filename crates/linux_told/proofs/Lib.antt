mod Steps
mod Answering
mod Answered
