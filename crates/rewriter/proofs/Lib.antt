pub mod RewriteAnswers
