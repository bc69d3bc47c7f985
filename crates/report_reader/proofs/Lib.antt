mod Numbers
mod Times
mod LineWords
mod Spelled
mod Named
mod Widths
mod LineLaws
mod Reports
