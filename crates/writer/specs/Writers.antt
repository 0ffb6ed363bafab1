-- What a writer of updates holds.
use Rattle.format.specs.Bytes.{Bytes}
use Rattle.writer.specs.declared.update.Writer.{Writer}
use Rattle.writer.specs.Drafts.{written}

-- the bytes written last
abbrev pub bytes_of : Writer → Bytes
bytes_of w = written w.draft
