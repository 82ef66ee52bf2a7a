pub mod Decimals
pub mod Digits
pub mod LineTexts
pub mod Shown
pub mod WorkedNumbers
