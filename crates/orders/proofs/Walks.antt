-- The walk over the commands of an order: what is filled, and what is left (Specification 8.3). Assumes nothing.
use mathlib.Core.Path.{◌≡◌, refl, sym, ap, subst, ◌∙◌}
use mathlib.Core.List.{List, [], ◌∷◌, ◌++◌, append_assoc, append-nil}
use Prim.Native.Nat.{ℕ, zero, suc, ◌+◌, ◌≤◌, ◌<◌}
use native.Mathlib.Omega.{arith}
use native.Mathlib.Numerals.{add-one}
use lib.ListN.{length, take, drop, get_or, set, length-append, length-drop}
use lib.Seq.{paste, paste-zero, paste-suc, take_all, take_at, drop-append-add, drop-drop}
use Rattle.theory.proofs.Members.{Each, each-cons}
use Rattle.commands.specs.declared.Command.{Command}
use Rattle.commands.specs.declared.Reading.{Reading}
use Rattle.commands.specs.declared.Reading.TheVariants.{Known, Unknown, Past}
use Rattle.commands.specs.Commands.{behind, command_at, operands_of}
use Rattle.commands.proofs.Known.{known_at}
use Rattle.orders.specs.declared.Counts.{Counts}
use Rattle.orders.specs.Operands.{LiesIn, Readable, command_numbers, gathered, commands_by, commands_from, commands_in}
use Rattle.orders.specs.Walk.{Taken}
use Rattle.orders.proofs.Commands.{next-commands}

-- ---- the numbers of one command

module _ {A : Type 0} (numbers : List A) (filled : ℕ) (before : List A) where
  -- one more of them stands in an area behind those that were filled
  pub one-more : (now : List A) (j : ℕ) (z : A) → now ≡ paste before filled numbers j → z ≡ get_or numbers j z → j < length numbers → filled + length numbers ≤ length before
      → set now (filled + j) z ≡ paste before filled numbers (j + 1)
  one-more now j z l e h room =
      ap (set now (filled + j)) e
      ∙ ap (λ (x : List A). set x (filled + j) (get_or numbers j z)) l
      ∙ paste-suc before filled numbers j z (omega arith) h
      ∙ ap (paste before filled numbers) (sym (add-one j))

  -- there are none
  pub taken_none : numbers ≡ [] → Taken numbers filled before before filled
  taken_none e = rw e (record { count = omega arith; held = paste-zero before filled [] })

-- ---- the walk

-- what was filled up to an offset, and what is left from there on
pub record Walking {A : Type 0} (code : ℕ) (decode : List ℕ → List A) (order : List ℕ) (c : Counts) (before now : List A) (at filled : ℕ) : Type 0 where
  pub inside : at ≤ length order
  pub fuel : ℕ
  pub enough : length order < at + fuel
  pub whole : Each (LiesIn order c.cells c.generators) (commands_from fuel order c.cells c.generators at)
  pub done : List A
  pub counted : filled ≡ length done
  pub all : done ++ gathered code decode order (commands_from fuel order c.cells c.generators at) ≡ gathered code decode order (commands_in order c)
  pub held : now ≡ done ++ drop (length done) before

-- the first of some facts
each_first : {A : Type 0} {P : A → Type 0} {x : A} {xs : List A} → Each P (x ∷ xs) → P x
each_first (each-cons h hs) = h

-- the others
each-rest : {A : Type 0} {P : A → Type 0} {x : A} {xs : List A} → Each P (x ∷ xs) → Each P xs
each-rest (each-cons h hs) = hs

-- nothing is filled
pub walk_start : {A : Type 0} {code : ℕ} {decode : List ℕ → List A} {order : List ℕ} {c : Counts} {before : List A} → Readable order c → Walking code decode order c before before 0 0
unfolding commands_in
walk_start {order = order} r = record { inside = omega arith; fuel = suc (length order); enough = omega arith; whole = r.whole; done = []; counted = refl; all = refl; held = refl }

module _ {A : Type 0} {code : ℕ} {decode : List ℕ → List A} {order : List ℕ} {c : Counts} {before now : List A} {at filled : ℕ} (w : Walking code decode order c before now at filled) where
  -- the numbers of the commands that are left, and of all
  abbrev left : List A
  left = gathered code decode order (commands_from w.fuel order c.cells c.generators at)

  abbrev total : List A
  total = gathered code decode order (commands_in order c)

  -- what is filled is no more than all
  filled-most : filled + length left ≡ length total
  filled-most = let k = w.counted in omega (arith, length-append w.done left, ap length w.all)

  -- the area keeps its length
  pub walk-length : length total ≤ length before → length now ≡ length before
  walk-length room = let k = w.counted in omega (arith, filled-most, ap length w.held, length-append w.done (drop (length w.done) before), length-drop (length w.done) before)

  -- no command is left
  pub walk_end : {r : Reading} → r ≡ command_at order at → ((x : Command) → r ≡ Known x → ⊥) → now ≡ total ++ drop (length total) before
  unfolding gathered commands_from
  walk_end {r} read none =
      let e : w.done ≡ total = sym (append-nil w.done) ∙ ap (λ (l : List Command). w.done ++ gathered code decode order l) (sym (over w.fuel)) ∙ w.all in
      w.held ∙ ap (λ (l : List A). l ++ drop (length l) before) e
    where
      over_by : (r : Reading) (rest : Command → List Command) → ((x : Command) → r ≡ Known x → ⊥) → commands_by r rest ≡ []
      over_by (Known x) rest h = absurd (h x refl)
      over_by Unknown rest h = refl
      over_by Past rest h = refl

      over : (f : ℕ) → commands_from f order c.cells c.generators at ≡ []
      over zero = refl
      over (suc f) =
          let rest : Command → List Command = λ x. commands_from f order c.cells c.generators (behind x c.cells c.generators) in
          ap (λ (y : Reading). commands_by y rest) (sym read) ∙ over_by r rest none

  module _ {x : Command} (k : Known x ≡ command_at order at) where
    -- the walk has fuel for the command
    stepped : (f : ℕ) × (w.fuel ≡ suc f)
    stepped = go w.fuel w.enough
      where
        go : (g : ℕ) → length order < at + g → (f : ℕ) × (g ≡ suc f)
        go zero h = absurd (let i = w.inside in omega arith)
        go (suc f) h = (f, refl)

    -- the commands behind it
    abbrev rest : List Command
    rest = commands_from stepped.0 order c.cells c.generators (behind x c.cells c.generators)

    -- the command is the first of those that are left
    first-left : commands_from w.fuel order c.cells c.generators at ≡ x ∷ rest
    first-left = ap (λ (g : ℕ). commands_from g order c.cells c.generators at) stepped.1 ∙ next-commands order c stepped.0 at x (sym k)

    -- its operands start behind its byte, and lie within the order
    pub walk_inside : (operands_of x ≡ at + 1) × (behind x c.cells c.generators ≤ length order)
    walk_inside = ((known_at order at x (sym k)).0, each_first (subst (Each (LiesIn order c.cells c.generators)) first-left w.whole))

    -- there is room for its numbers
    pub walk-room : length total ≤ length before → filled + length (command_numbers code decode order x) ≤ length now
    unfolding gathered
    walk-room room =
        omega (arith, filled-most, walk-length room, ap (λ (l : List Command). length (gathered code decode order l)) first-left, length-append (command_numbers code decode order x) (gathered code decode order rest))

    -- its numbers are taken
    pub walk_turn : {now' : List A} {next r : ℕ} → next ≡ behind x c.cells c.generators → Taken (command_numbers code decode order x) filled now now' r → Walking code decode order c before now' next r
    unfolding gathered
    walk_turn {now'} {next} {r} e taken =
        let xs = command_numbers code decode order x in
        let tail = drop (length w.done) before in
        let front : take filled now ≡ w.done = ap (take filled) w.held ∙ take_at w.done tail filled (sym w.counted) in
        let back : drop (filled + length xs) now ≡ drop (length (w.done ++ xs)) before =
        ap (drop (filled + length xs)) w.held
        ∙ ap (λ (i : ℕ). drop (i + length xs) (w.done ++ tail)) w.counted
        ∙ drop-append-add w.done tail (length xs)
        ∙ drop-drop (length xs) (length w.done) before
        ∙ ap (λ (i : ℕ). drop i before) (sym (length-append w.done xs)) in
        subst (λ (i : ℕ). Walking code decode order c before now' i r) (sym e) (record {
          inside = walk_inside.1;
          fuel = stepped.0;
          enough = let h = w.enough in let f = stepped.1 in let i = walk_inside in omega arith;
          whole = each-rest (subst (Each (LiesIn order c.cells c.generators)) first-left w.whole);
          done = w.done ++ xs;
          counted = taken.count ∙ (let l = length-append w.done xs in let k = w.counted in omega arith);
          all = append_assoc w.done xs (gathered code decode order rest) ∙ ap (λ (l : List Command). w.done ++ gathered code decode order l) (sym first-left) ∙ w.all;
          held =
              taken.held
              ∙ ap (λ (l : List A). (l ++ take (length xs) xs) ++ drop (filled + length xs) now) front
              ∙ ap (λ (l : List A). (w.done ++ l) ++ drop (filled + length xs) now) (take_all (length xs) xs (omega arith))
              ∙ ap (λ (l : List A). (w.done ++ xs) ++ l) back;
        })
