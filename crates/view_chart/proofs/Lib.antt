mod Joined
mod NewsLaws
mod NoteLaws
mod Places
mod States
