pub mod Fronts
pub mod RankFiles
pub mod Lines
pub mod Decimals
pub mod ScriptTexts
pub mod Spellings
pub mod StepLines
pub mod Tests
