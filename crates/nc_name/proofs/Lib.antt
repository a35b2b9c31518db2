pub mod TextParts
pub mod KeyTexts
