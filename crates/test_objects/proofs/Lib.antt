mod Shown
mod EntryLines
mod CallLines
mod ActLines
mod ItemLines
mod FatalReports
