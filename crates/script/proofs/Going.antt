-- A script that is run part of the way. Assumes nothing.
use Rattle.std.proofs.Common.{◌≡◌, ℕ, List, [], ◌∷◌, ◌++◌, None, sym, refl, ap, ◌∙◌, subst, append_assoc}
use Rattle.script.specs.Printing.{Prints}
use Rattle.script.specs.Rooms.{Room}
use Rattle.script.specs.Scripts.{Effects, Read, lines_of, leaves, sets_left, numbers_left, fault_line}
use Rattle.script.specs.Transcripts.{Interpreted, Lent, room_in}
use Rattle.script.proofs.Reading.{one_then}

prints_more : {O : Type 0} (printed : O → List ℕ → O → Type 0) (a b c : O) (xs ys : List (List ℕ)) → Prints printed a xs b → Prints printed b ys c → Prints printed a (xs ++ ys) c
prints_more printed a b c [] ys p q = subst (λ o. Prints printed o ys c) (sym p) q
prints_more printed a b c (x ∷ xs) ys p q = (p.0, p.1, prints_more printed p.0 b c xs ys p.2 q)

abbrev all_lines : {C P : Type 0} → Effects C P → Room → Read C → P → List (List ℕ)
all_lines effects room script p = lines_of effects room script.commands p ++ fault_line script.fault

-- a run that has come part of the way: whatever prints the rest from here has printed the whole from the start,
-- and what it leaves from here, also in the lent places, is what the whole leaves
pub record Reached {C P R O : Type 0} (effects : Effects C P) (stand : R → P → Type 0) (printed : O → List ℕ → O → Type 0) (lent : Lent) (script : Read C) (begin : P) (out : O) (rest : Read C) (run : R) (out' : O) (now : Lent) : Type 0 where
  pub here : P
  pub stands : stand run here
  pub lines : (o : O) → Prints printed out' (all_lines effects (room_in lent) rest here) o → Prints printed out (all_lines effects (room_in lent) script begin) o
  pub leaves_same : leaves effects (room_in lent) rest.commands here ≡ leaves effects (room_in lent) script.commands begin
  pub sets : sets_left effects (room_in lent) rest.commands here now.sets ≡ sets_left effects (room_in lent) script.commands begin lent.sets
  pub numbers : numbers_left effects (room_in lent) rest.commands here now.numbers ≡ numbers_left effects (room_in lent) script.commands begin lent.numbers

module _ {C P R O : Type 0} {effects : Effects C P} {stand : R → P → Type 0} {printed : O → List ℕ → O → Type 0} {lent : Lent} {script : Read C} {begin : P} {out : O} where
  pub reached_start : (run : R) → stand run begin → Reached effects stand printed lent script begin out script run out lent
  reached_start run stood = record { here = begin; stands = stood; lines = λ o x. x; leaves_same = refl; sets = refl; numbers = refl }

  module _ {rest : Read C} {run : R} {out' : O} {now : Lent} (was : Reached effects stand printed lent script begin out rest run out' now) where
    -- one command further on
    pub reached_more : (place : ℕ) (command : C) (left : Read C) (next : R) (after : O) (then : Lent) → rest ≡ one_then place command left → stand next (effects.makes (room_in lent) command was.here) → Prints printed out' (effects.prints (room_in lent) (record { place = place; command = command }) was.here) after → then.sets ≡ effects.sets command was.here now.sets → then.numbers ≡ effects.numbers command was.here now.numbers → Reached effects stand printed lent script begin out left next after then
    reached_more place command left next after then e stands line sets numbers = record {
      here = effects.makes (room_in lent) command was.here;
      stands = stands;
      lines = λ o p.
          let both : Prints printed out' (effects.prints (room_in lent) (record { place = place; command = command }) was.here ++ all_lines effects (room_in lent) left (effects.makes (room_in lent) command was.here)) o =
          prints_more printed out' after o (effects.prints (room_in lent) (record { place = place; command = command }) was.here) (all_lines effects (room_in lent) left (effects.makes (room_in lent) command was.here)) line p in
          was.lines o (subst (λ r. Prints printed out' (all_lines effects (room_in lent) r was.here) o) (sym e) (subst (λ l. Prints printed out' l o) (sym (append_assoc (effects.prints (room_in lent) (record { place = place; command = command }) was.here) (lines_of effects (room_in lent) left.commands (effects.makes (room_in lent) command was.here)) (fault_line left.fault))) both));
      leaves_same = ap (λ (r : Read C). leaves effects (room_in lent) r.commands was.here) (sym e) ∙ was.leaves_same;
      sets = ap (sets_left effects (room_in lent) left.commands (effects.makes (room_in lent) command was.here)) sets ∙ ap (λ (r : Read C). sets_left effects (room_in lent) r.commands was.here now.sets) (sym e) ∙ was.sets;
      numbers = ap (numbers_left effects (room_in lent) left.commands (effects.makes (room_in lent) command was.here)) numbers ∙ ap (λ (r : Read C). numbers_left effects (room_in lent) r.commands was.here now.numbers) (sym e) ∙ was.numbers;
    }

    -- where nothing more is to be read, the whole was run
    pub reached_end : rest ≡ record { commands = []; fault = None } → Interpreted effects stand printed lent script begin out run out' now
    reached_end e = record {
      lines = was.lines out' (subst (λ (r : Read C). Prints printed out' (all_lines effects (room_in lent) r was.here) out') (sym e) refl);
      stands = subst (stand run) (ap (λ (r : Read C). leaves effects (room_in lent) r.commands was.here) (sym e) ∙ was.leaves_same) was.stands;
      sets = ap (λ (r : Read C). sets_left effects (room_in lent) r.commands was.here now.sets) (sym e) ∙ was.sets;
      numbers = ap (λ (r : Read C). numbers_left effects (room_in lent) r.commands was.here now.numbers) (sym e) ∙ was.numbers;
    }
