-- All forms of the grammar, for a proof that computes them.
use Rattle.grammar.specs.Grammar.{
  open_forms,
  terms_forms,
  join_forms,
  change_forms,
  leave_forms,
  load_forms,
  arrive_forms,
  tick_forms,
  rules,
}

unfoldable pub forms : Type 0
unfolding rules open_forms terms_forms join_forms change_forms leave_forms load_forms arrive_forms tick_forms
forms = Unit {0}
