mod SourceReads
