mod Counted
mod Dues
mod Joined
mod Lifts
mod Loops
mod Tree
mod Unwatched
