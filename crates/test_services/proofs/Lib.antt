mod FactoryRows
mod MatchingRows
mod ObjectionRows
mod OrderRows
mod PhaseRows
mod SettingRows
mod TextFaultRows
mod TreeRows
