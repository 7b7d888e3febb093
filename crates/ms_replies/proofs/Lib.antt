mod AuditReplies
mod TraceReplies
mod SatisfiedLines
