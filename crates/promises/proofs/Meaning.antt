-- What an answer that is not a refusal means (Specification 11, demands 2 and 3), and 15 of a Split. Assumes nothing.
use Rattle.std.specs.declared.result.Result.TheVariants.{Err}
use Rattle.definitions.specs.Refusals.{no_fault}
use mathlib.Core.Path.{◌≡◌, refl, sym, ap, ap₂, ◌∙◌, subst}
use mathlib.Core.Bool.{true}
use mathlib.Core.List.{List}
use Prim.Native.Nat.{ℕ, ◌≤◌}
use native.Mathlib.Omega.{arith}
use borrow.Author.Tests.{eq-eqb, le-leb}
use lib.IntN.{ℤ, pos}
use lib.ListN.{length, get_or}
use Rattle.definitions.specs.declared.Answer.{Answer}
use Rattle.definitions.specs.declared.Answer.TheVariants.{Passed}
use Rattle.definitions.specs.Limits.{cells, split_limit}
use Rattle.definitions.specs.Vector.{within}
use Rattle.definitions.specs.Lent.{whole_rows}
use Rattle.definitions.specs.Refusals.{Outcome, accepted, cells_fault, fault_where, is_past, refused, split_size_fault}
use Rattle.definitions.specs.Calls.{Parts, split_call, split_end}
use Rattle.theory.proofs.Faults.{none-all, none_end, none-if, where-none}
use Rattle.theory.proofs.Bounds.{within-cell, within-each}
use Rattle.theory.proofs.ListCall.{list-kept}
use Rattle.theory.proofs.SplitCall.{SplitFacts, split-exactly, split-facts, split-outside, split_sizes}
use Rattle.theory.proofs.CheckCall.{check-conformal, check-whole, rules-facts}
use Rattle.orders.specs.declared.Service.TheVariants.{List as ListService, Split as SplitService}
use Rattle.orders.specs.declared.Service.TheVariants.{Check as CheckService}
use Rattle.orders.specs.declared.Counts.{Counts}
use Rattle.orders.specs.Scan.{scan_of}
use Rattle.orders.specs.Operands.{coefficients_in, rows_in, vector_in}
use Rattle.orders.proofs.Numbers.{vector-count}
use Rattle.orders.proofs.Commands.{accepted-order}
use Rattle.orders.proofs.Scans.{turned_down}
use Rattle.answers.specs.Answers.{answer_text, passed_text}
use Rattle.promises.specs.Services.{Served, group_size, list_size, order_in, pieces_size, printed, served, served_by}
use Rattle.promises.specs.Promise.{LiesInside, Listed, Outside, Parted, PassKept, Passing, PastEntries}
use Rattle.promises.proofs.Prefix.{served-refused}
use Rattle.promises.proofs.Orders.{CheckServed, ListServed, SplitServed, check-found, order-answer, parts_in}
use Rattle.promises.proofs.Orders.{passed_in}
use Rattle.promises.proofs.Cases.{IsRefusal}

-- ---- List
module _ (file : List ℕ) where
  -- what it finds is a whole list, and this is printed
  pub list-means : ListServed file → Listed file (printed ListService file)
  unfolding printed answer_text
  list-means F = record {
    counts = F.counts;
    scanned = F.scanned;
    found = F.found;
    kept = list-kept (order_in file F.counts) (list_size F.counts) (group_size F.counts) F.found F.listed;
    says = ap₂ answer_text F.answers F.lines;
  }

-- ---- Split
module _ (file : List ℕ) where
  -- what it finds are pieces that add up, and these are printed
  pub split-means : SplitServed file → Parted file (printed SplitService file)
  unfolding printed answer_text
  split-means F = record {
    counts = F.counts;
    scanned = F.scanned;
    found = F.found;
    list_kept = list-kept (order_in file c) (list_size c) (group_size c) F.found.listing S.listed;
    kept = S.kept;
    inside = S.in_lattice;
    says = ap₂ answer_text F.answers F.lines;
  }
    where
      c : Counts
      c = F.counts

      S : SplitFacts (order_in file c) (vector_in file c) (list_size c) (group_size c) F.found
      S = split-facts (order_in file c) (vector_in file c) (list_size c) (group_size c) pieces_size F.found F.parted

  -- 15 IS SAID ONLY OF A VECTOR THAT IS NOT IN THE LATTICE
  pub split-outside-file : (served SplitService file).answer ≡ refused 15 0 → Outside file
  unfolding served_by split_call split_end
  split-outside-file q = go (scan_of SplitService file) refl
    where
      parted : (c : Counts) (o : Outcome Parts)
          → (split_end c.cells (list_size c) (group_size c) pieces_size o).answer ≡ refused 15 0 → o ≡ refused 15 0
      parted c (Err r) x = let y : r.number ≡ 15 = cc in let z : r.place ≡ 0 = cc in ap₂ refused y z
      parted c (accepted found) x = absurd (subst IsRefusal (sym x) tt)

      go : (x : Outcome Counts) → scan_of SplitService file ≡ x → Outside file
      go (Err r) e =
          let s = sym (ap (λ (s : Served). s.answer) (served-refused SplitService file e)) ∙ q in
          let n : r.number ≡ 15 = cc in
          absurd (let t = turned_down SplitService file r.number r.place e in omega arith)
      go (accepted c) e = record {
        counts = c;
        scanned = e;
        apart = split-outside (order_in file c) (vector_in file c) (list_size c) (group_size c) pieces_size
            (parted c (parts_in file c) (sym (order-answer SplitService file e refl) ∙ q));
      }

  -- the sizes that a file lends are right
  sizes-right : (c : Counts) → scan_of SplitService file ≡ accepted c
      → split_sizes (order_in file c) (vector_in file c) pieces_size ≡ no_fault
  unfolding cells_fault split_size_fault whole_rows
  sizes-right c e =
      let A = accepted-order SplitService file c e in
      let L = A.readable.limited in
      none-all _ (none-if 5 (rw (le-leb 1 c.cells L.some, le-leb c.cells cells L.few.cells-ok)))
      (none-all _ (none-if 6 (rw (eq-eqb (length (vector_in file c)) c.cells (vector-count file c A)))) none_end)

  -- a vector within the limit meets no test 14
  entries-pass : (vector : List ℤ) → within split_limit vector ≡ true
      → fault_where 14 (length vector) (λ p. is_past split_limit (get_or vector p (pos 0))) ≡ no_fault
  unfolding is_past
  entries-pass vector h =
      (where-none 14 (length vector) (λ p. is_past split_limit (get_or vector p (pos 0)))).1
      (λ p l. rw (le-leb _ split_limit (within-cell split_limit vector (within-each split_limit vector h) p)))

  -- AND PAST 14 EXACTLY THEN
  pub outside-split : PastEntries file → Outside file → (served SplitService file).answer ≡ refused 15 0
  unfolding served_by split_call split_end
  outside-split P O =
      let c = P.counts in
      let same : O.counts ≡ c = (let p = P.scanned in let o = O.scanned in cc) in
      let out = subst (λ (k : Counts). ¬ (LiesInside file k)) same O.apart in
      let e =
      (split-exactly (order_in file c) (vector_in file c) (list_size c) (group_size c) pieces_size P.found
      (sizes-right c P.scanned) P.listed (entries-pass (vector_in file c) P.entries)).1 out in
      order-answer SplitService file P.scanned
      (ap (λ (o : Outcome Parts). (split_end c.cells (list_size c) (group_size c) pieces_size o).answer) e)

-- ---- Check
module _ (file : List ℕ) where
  -- what a pass prints
  pub passed-text : {rows sums : ℕ} → (served CheckService file).answer ≡ accepted (Passed rows sums)
      → printed CheckService file ≡ passed_text rows sums
  unfolding printed answer_text
  passed-text e = ap (λ (a : Outcome Answer). answer_text a (served CheckService file).lines) e

  -- a text that has room is a pass: the rules are kept and the list is whole; by the group's table, and so every
  -- lattice vector is
  -- a conformal sum
  pub check-means : (size : ℕ) → CheckServed file → length (printed CheckService file) ≤ size
      → PassKept file size (printed CheckService file)
  check-means size F h =
      let c = F.counts in
      let order = order_in file c in
      let w = (check-whole order (rows_in file c) (coefficients_in file c) (group_size c)).0 F.passes in
      record {
        passing = record {
          counts = c;
          scanned = F.scanned;
          rules = w.0;
          whole = w.1;
          says = passed-text F.answers;
          roomy = h;
        };
        table = (rules-facts order (rows_in file c) (coefficients_in file c) (group_size c) w.0).symmetric.is_table;
        conformal = check-conformal order (rows_in file c) (coefficients_in file c) (group_size c) F.passes;
      }

  -- AND EACH SUCH FILE PASSES
  pub passing-check : {size : ℕ} {text : List ℕ} (P : Passing file size text)
      → ((served CheckService file).answer ≡ passed_in file P.counts) × (text ≡ printed CheckService file)
  passing-check P =
      let c = P.counts in
      let a =
      check-found file c P.scanned
      ((check-whole (order_in file c) (rows_in file c) (coefficients_in file c) (group_size c)).1 (P.rules, P.whole)) in
      (a, P.says ∙ sym (passed-text a))
