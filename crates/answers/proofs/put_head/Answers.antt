-- `put_head` meets its contract. The invariant: the word and the first counts are written. Assumes nothing.
use mathlib.Core.Path.{ap}
use mathlib.Core.List.{List, map}
use Prim.Native.Nat.{ℕ}
use Rattle.std.proofs.lemmas.List.{take_all}
use native.Mathlib.Omega.{arith}
use Rattle.definitions.specs.Lists.{concat}
use Rattle.answers.specs.Answers.{count_text, head_text}
use Rattle.answers.proofs.Pages.{wrote_none, wrote-append, wrote_as}
use Rattle.answers.proofs.Lines.{texts-more}
use Rattle.answers.proofs.put_head.Goals as goal

pub loop-count-init : goal.loop-count-init
unfolding concat
loop-count-init c = wrote_none c.put_text-end.new.area c.put_text-end.result

pub loop-count-preserved : goal.loop-count-preserved
loop-count-preserved c =
    let o = c.loop-count in
    wrote_as (wrote-append o.invariant c.put_count-end.ensures.wrote) (texts-more count_text c.args.counts.now o.count-index 0 (omega arith))

-- the word, the counts and the line feed
pub returns : goal.returns
unfolding head_text
returns c =
    let o = c.loop-count in
    let all = ap (λ (l : List ℕ). concat (map count_text l)) (take_all o.count-index c.args.counts.now (omega arith)) in
    let counts = wrote_as o.invariant all in
    record { wrote = wrote-append (wrote-append c.put_text-end.ensures.wrote counts) c.put_byte.ensures.wrote }
