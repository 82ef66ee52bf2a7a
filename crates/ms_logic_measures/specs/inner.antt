pub mod BudgetExamples
pub mod MeasureExamples
pub mod MeasuredContents
