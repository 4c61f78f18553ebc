pub mod Judgements
pub mod LogTexts
pub mod ShownWords
