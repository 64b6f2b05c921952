-- It is a law of TurnDone, for somebody's slot and for nobody's, with the generator after the pick.
use Rattle.std.proofs.Common.{◌≡◌, ◌≢◌, ◌⊎◌, inl, inr, sym, ◌∙◌}
use Rattle.slot.specs.declared.Rule.{Rule}
use Rattle.slot.specs.declared.Rule.TheVariants.{IndifferentFirst, PrivateDraw, Nobody}
use Rattle.slot.proofs.TurnDone.{slot_sender, slot_done, nobody_done}
use Rattle.slot.proofs.spend.Goals as goal

-- by rules 1 and 2 it is somebody's
somebody : (r : Rule) → (r ≡ IndifferentFirst) ⊎ (r ≡ PrivateDraw) → r ≢ Nobody
somebody r (inl e) n = let no : IndifferentFirst ≡ Nobody = sym e ∙ n in cc
somebody r (inr e) n = let no : PrivateDraw ≡ Nobody = sym e ∙ n in cc

pub send-requires : goal.send-requires
send-requires c =
    let pre = c.requires in
    (pre.0, pre.1, rw c.with_generator-after.ensures (slot_sender _ _ _ pre.2 (somebody _ c.in-IndifferentFirst.is)))

pub returns-in-IndifferentFirst : goal.returns-in-IndifferentFirst
returns-in-IndifferentFirst c terms counts due =
    let stepped = c.with_generator-after.ensures in
    let some : c.args.choice.rule ≢ Nobody = somebody _ c.in-IndifferentFirst.is in
    slot_done _ _ _ due some c.send.result _ (rw stepped at (c.send.ensures terms counts (rw stepped (slot_sender _ _ _ due some))))

pub returns-in-Nobody : goal.returns-in-Nobody
returns-in-Nobody c terms counts due = rw c.with_generator-after.ensures (nobody_done _ _ _ due c.in-Nobody.is)
