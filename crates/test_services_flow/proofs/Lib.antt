mod FifoMoves
mod Wirings
mod SequencerGrants
mod SequenceSteps
mod ReportFates
mod ReportTexts
