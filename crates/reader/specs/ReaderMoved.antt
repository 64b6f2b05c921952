-- "The script reader walks a lent text and remembers its place" (paper 01, "Script and printout").
use Rattle.reader.specs.declared.Reader.{Reader}
use Rattle.reader.specs.LineSpans.{line_end, after_line}

-- a reader that has read the line at its place: the same text, and the place behind the line
abbrev pub moved : Reader → Reader
moved r = record { text = r.text; at = after_line r.text.now (line_end r.text.now r.at) }
