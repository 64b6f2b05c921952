-- The loop's invariant: what was found so far, with what the rest of the template finds in the rest of the line, is what the template
-- finds in the line.
use Rattle.parser.proofs.TemplateWalk.{Walked}
use Rattle.parser.proofs.read_as.Given as goal

abbrev pub invariant-loop-byte : goal.invariant-loop-byte
invariant-loop-byte l = Walked l.line l.template l.large l.numbers l.count l.byte-index l.rest
