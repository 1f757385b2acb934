-- That the past of a script is the past of the list of calls that it makes. Assumes nothing.
use Rattle.std.proofs.Common.{◌≡◌, ℕ, ◌≤◌, Bool, true, false, cond, ◌&&◌, leb, List, [], ◌∷◌, ◌++◌, is_some, Some, None, Option, sym, refl, ap, ◌∙◌, subst, arith}
use Rattle.std.proofs.lemmas.Bool.{both_ways, leb-true}
use Rattle.structure.specs.declared.refusal.Refusal.{Refusal}
use Rattle.structure.specs.declared.refusal.Refusal.TheVariants.{Order}
use Rattle.structure.specs.Drawings.{Drawing, order_refused, set_refused, unless}
use Rattle.structure.specs.Kinds.{path_list}
use Rattle.structure.specs.Meanings.{Sized}
use Rattle.book.specs.declared.call.Call.{Call}
use Rattle.book.specs.declared.call.Weights.{Weights}
use Rattle.book.specs.Answers.{deed_of, onward, past_after}
use Rattle.book.specs.History.{Deed, Rate as rate, SetPrice as set_price, Withdraw as withdraw, PutBack as put_back, AskFigure as ask_figure, next}
use Rattle.book.proofs.Acceptance.{Sound, next_sound}
use Rattle.book.proofs.Histories.{told}
use Rattle.book.proofs.Standings.{figure_close}
use Rattle.book_script.specs.declared.command.Command.{Command}
use Rattle.book_script.specs.declared.command.Command.TheVariants.{Start, Add, Open, Rate, Price, Withdraw, PutBack, Figure, Tally, Signature, Cuts}
use Rattle.script.specs.declared.stage.Stage.{Stage}
use Rattle.script.specs.declared.stage.Stage.TheVariants.{Blank, Drawing as in_drawing, Open as opened}
use Rattle.book_script.specs.Histories.{OfHistory, at_end, before, call_at, call_of, calls_in}
use Rattle.book_script.specs.Language.{Progress, begun, drawing_on, ground, step}
use Rattle.script.specs.Rooms.{Room}
use Rattle.script.specs.Stages.{same}
use Rattle.script.specs.Scripts.{Placed, leaves}
use Rattle.book_script.specs.Answers.{effects}

-- ---- orders that a drawing may have

let_pass : (test : Bool) → ◌≡◌ {A = Option Refusal} (cond test None (Some Order)) None → test ≡ true
let_pass true e = refl
let_pass false e = absurd (both_ways true (ap is_some e) refl)

both_hold : (x y : Bool) → (x && y) ≡ true → (x ≡ true) × (y ≡ true)
both_hold true y e = (refl, e)
both_hold false y e = absurd (both_ways false refl e)

order_fits : (n : ℕ) → order_refused n ≡ None → (1 ≤ n) × (n ≤ 16)
order_fits n e =
    let both = both_hold (leb 1 n) (leb n 16) (let_pass (leb 1 n && leb n 16) e) in
    (leb-true 1 n both.0, leb-true n 16 both.1)

-- ---- one command

abbrev at : Stage → Drawing → List Deed → Progress
at s d h = record { stage = s; drawn = d; past = h }

-- before the book is open nothing is past
abbrev Fresh : Progress → Type 0
Fresh p = same p.stage opened ≡ false → p.past ≡ []

abbrev past_with : ℕ → List Deed → Option (Call (Weights (Unit {0}))) → List Deed
past_with n past None = past
past_with n past (Some call) = onward n past (deed_of call)

-- from p to q by a command that makes a call, or none: an open book stays open, on the same drawing
record Steps (p q : Progress) (call : Option (Call (Weights (Unit {0})))) : Type 0 where
  past : q.past ≡ past_with p.drawn.order p.past call
  fresh : Fresh q
  sized : Sized (ground q)
  stays_open : same p.stage opened ≡ true → (same q.stage opened ≡ true) × (q.drawn ≡ p.drawn)

stays : (p : Progress) → Fresh p → Sized (ground p) → Steps p p None
stays p fresh sized = record { past = refl; fresh = fresh; sized = sized; stays_open = λ e. (e, refl) }

drawn_on : (p : Progress) (why : Option Refusal) (new : Drawing) → Fresh p → same p.stage opened ≡ false → Sized (ground p) → (why ≡ None → Sized (path_list new)) → Steps p (drawing_on p (unless why new p.drawn).0 (unless why new p.drawn).1).1 None
drawn_on p None new fresh shut sized fits = record {
  past = refl;
  fresh = λ e. fresh shut;
  sized = fits refl;
  stays_open = λ e. absurd (both_ways (same p.stage opened) shut e);
}
drawn_on p (Some why) new fresh shut sized fits = stays p fresh sized

opens : (d : Drawing) (h : List Deed) → Fresh (at in_drawing d h) → Sized (path_list d) → Steps (at in_drawing d h) (at opened d []) None
opens d h fresh sized = record {
  past = sym (fresh refl);
  fresh = λ e. refl;
  sized = sized;
  stays_open = λ e. absurd (both_ways false refl e);
}

calls_on : (d : Drawing) (h after : List Deed) (call : Call (Weights (Unit {0}))) → after ≡ onward d.order h (deed_of call) → Sized (path_list d) → Steps (at opened d h) (at opened d after) (Some call)
calls_on d h after call e sized = record {
  past = e;
  fresh = λ f. absurd (both_ways true f refl);
  sized = sized;
  stays_open = λ e. (refl, refl);
}

steps : (room : Room) (command : Command) (s : Stage) (d : Drawing) (h : List Deed) → Fresh (at s d h) → Sized (path_list d) → Steps (at s d h) (step room command (at s d h)).1 (call_at (at s d h) command)
steps room (Start order) Blank d h fresh sized = drawn_on (at Blank d h) (order_refused order) (record { order = order; sets = [] }) fresh refl sized (order_fits order)
steps room (Add set) Blank d h fresh sized = stays (at Blank d h) fresh sized
steps room Open Blank d h fresh sized = stays (at Blank d h) fresh sized
steps room (Rate part rating) Blank d h fresh sized = stays (at Blank d h) fresh sized
steps room (Price part price) Blank d h fresh sized = stays (at Blank d h) fresh sized
steps room (Withdraw part) Blank d h fresh sized = stays (at Blank d h) fresh sized
steps room (PutBack part) Blank d h fresh sized = stays (at Blank d h) fresh sized
steps room Figure Blank d h fresh sized = stays (at Blank d h) fresh sized
steps room Tally Blank d h fresh sized = stays (at Blank d h) fresh sized
steps room Signature Blank d h fresh sized = stays (at Blank d h) fresh sized
steps room Cuts Blank d h fresh sized = stays (at Blank d h) fresh sized
steps room (Start order) in_drawing d h fresh sized = stays (at in_drawing d h) fresh sized
steps room (Add set) in_drawing d h fresh sized = drawn_on (at in_drawing d h) (set_refused d set) (record { order = d.order; sets = d.sets ++ (set ∷ []) }) fresh refl sized (λ e. sized)
steps room Open in_drawing d h fresh sized = opens d h fresh sized
steps room (Rate part rating) in_drawing d h fresh sized = stays (at in_drawing d h) fresh sized
steps room (Price part price) in_drawing d h fresh sized = stays (at in_drawing d h) fresh sized
steps room (Withdraw part) in_drawing d h fresh sized = stays (at in_drawing d h) fresh sized
steps room (PutBack part) in_drawing d h fresh sized = stays (at in_drawing d h) fresh sized
steps room Figure in_drawing d h fresh sized = stays (at in_drawing d h) fresh sized
steps room Tally in_drawing d h fresh sized = stays (at in_drawing d h) fresh sized
steps room Signature in_drawing d h fresh sized = stays (at in_drawing d h) fresh sized
steps room Cuts in_drawing d h fresh sized = stays (at in_drawing d h) fresh sized
steps room (Start order) opened d h fresh sized = stays (at opened d h) fresh sized
steps room (Add set) opened d h fresh sized = stays (at opened d h) fresh sized
steps room Open opened d h fresh sized = stays (at opened d h) fresh sized
steps room (Rate part rating) opened d h fresh sized = calls_on d h (next d.order h (rate part rating)) _ refl sized
steps room (Price part price) opened d h fresh sized = calls_on d h (next d.order h (set_price part price)) _ refl sized
steps room (Withdraw part) opened d h fresh sized = calls_on d h (next d.order h (withdraw part)) _ refl sized
steps room (PutBack part) opened d h fresh sized = calls_on d h (next d.order h (put_back part)) _ refl sized
steps room Figure opened d h fresh sized = calls_on d h (next d.order h ask_figure) _ refl sized
steps room Tally opened d h fresh sized = stays (at opened d h) fresh sized
steps room Signature opened d h fresh sized = stays (at opened d h) fresh sized
steps room Cuts opened d h fresh sized = stays (at opened d h) fresh sized

-- ---- all commands of a list

module _ (room : Room) where
  -- a command in its place
  stepped : (c : Placed Command) (p : Progress) → Fresh p → Sized (ground p) → Steps p (step room c.command p).1 (call_at p c.command)
  stepped c p fresh sized = steps room c.command p.stage p.drawn p.past fresh sized

  leaves_sized : (cs : List (Placed Command)) (p : Progress) → Fresh p → Sized (ground p) → Sized (ground (leaves effects room cs p))
  leaves_sized [] p fresh sized = sized
  leaves_sized (c ∷ cs) p fresh sized =
      let s = stepped c p fresh sized in
      leaves_sized cs (step room c.command p).1 s.fresh s.sized

  leaves_open : (cs : List (Placed Command)) (p : Progress) → Fresh p → Sized (ground p) → same p.stage opened ≡ true → (leaves effects room cs p).drawn ≡ p.drawn
  leaves_open [] p fresh sized is_open = refl
  leaves_open (c ∷ cs) p fresh sized is_open =
      let s = stepped c p fresh sized in
      leaves_open cs (step room c.command p).1 s.fresh s.sized (s.stays_open is_open).0 ∙ (s.stays_open is_open).1

  same_order : (is_open : Bool) (call : Option (Call (Weights (Unit {0})))) (k n : ℕ) (past : List Deed) → (is_open ≡ true → k ≡ n) → past_with k past (cond is_open call None) ≡ past_with n past (cond is_open call None)
  same_order true call k n past e = ap (λ x. past_with x past call) (e refl)
  same_order false call k n past e = refl

  with_call : (n : ℕ) (past : List Deed) (call : Option (Call (Weights (Unit {0})))) (calls : List (Call (Weights (Unit {0})))) → past_after n (past_with n past call) calls ≡ past_after n past (before call calls)
  with_call n past None calls = refl
  with_call n past (Some call) calls = refl

  pasts : (cs : List (Placed Command)) (p : Progress) → Fresh p → Sized (ground p) → (leaves effects room cs p).past ≡ past_after (leaves effects room cs p).drawn.order p.past (calls_in room cs p)
  pasts [] p fresh sized = refl
  pasts (c ∷ cs) p fresh sized =
      let q = (step room c.command p).1 in
      let s = stepped c p fresh sized in
      let n = (leaves effects room cs q).drawn.order in
      let kept : same p.stage opened ≡ true → p.drawn.order ≡ n = λ is_open. ap (λ (d : Drawing). d.order) (sym (leaves_open (c ∷ cs) p fresh sized is_open)) in
      pasts cs q s.fresh s.sized
      ∙ ap (λ h. past_after n h (calls_in room cs q)) (s.past ∙ same_order (same p.stage opened) (call_of c.command) p.drawn.order n p.past kept)
      ∙ with_call n p.past (call_at p c.command) (calls_in room cs q)

-- ---- every accepted call was accepted when it was made

onward_sound : (n : ℕ) (past : List Deed) (deed : Option Deed) → Sound n past → Sound n (onward n past deed)
onward_sound n past None sound = sound
onward_sound n past (Some deed) sound = next_sound n past deed sound

past_sound : (n : ℕ) (past : List Deed) (calls : List (Call (Weights (Unit {0})))) → Sound n past → Sound n (past_after n past calls)
past_sound n past [] sound = sound
past_sound n past (call ∷ calls) sound = past_sound n (onward n past (deed_of call)) calls (onward_sound n past (deed_of call) sound)

pub of_history : (room : Room) (commands : List (Placed Command)) → OfHistory room commands
of_history room commands =
    let p = at_end room commands in
    let n = p.drawn.order in
    let calls = calls_in room commands begun in
    let begins : Sized (ground begun) = (omega arith, omega arith) in
    let past : p.past ≡ past_after n [] calls = pasts room commands begun (λ e. refl) begins in
    record {
      past = past;
      close = figure_close (ground p) p.past (leaves_sized room commands begun (λ e. refl) begins) (subst (Sound n) (sym past) (past_sound n [] calls tt));
      told = told p.past;
    }
