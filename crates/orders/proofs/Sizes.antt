-- How many bytes the commands of an order within the limits take (Specification 8.3). Assumes nothing.
use mathlib.Core.Path.{◌≡◌}
use mathlib.Core.Bool.{Bool}
use Prim.Native.Nat.{ℕ, ◌+◌, ◌*◌, ◌≤◌, ◌<◌}
use native.Mathlib.Decide.{dec_le}
use native.Mathlib.Nat.{le_trans, mul-le-mul}
use native.Mathlib.Omega.{arith}
use Rattle.definitions.specs.Limits.{cells, generator_limit, exchange_limit, list_limit, bare_limit}
use Rattle.commands.specs.declared.Command.{Command}
use Rattle.commands.specs.declared.Command.TheVariants.{Size, Generator, Exchange, Row, Coefficients, Vector, Image, End}
use Rattle.commands.specs.Commands.{width_of}
use Rattle.orders.specs.declared.Phase.{Phase}
use Rattle.orders.specs.declared.Phase.TheVariants.{Empty, Generators, Exchanges, Images, Vectors, Rows, Paired, Done}
use Rattle.orders.specs.declared.Counts.{Counts}
use Rattle.orders.specs.Scan.{Few}
use Rattle.orders.proofs.Grammar.{Head, generators, exchanges, Body, head, images}

-- the most bytes that a command takes with m generators, its own included
abbrev pub most : (m : ℕ) → Command → ℕ
most m x = 1 + width_of x cells m

-- the most that SIZE, m generators and e exchanges take
abbrev head_most : (m e : ℕ) → ℕ
head_most m e = most m (Size 0) + m * most m (Generator 0) + e * most m (Exchange 0)

-- the most that r rows and their coefficients take
abbrev rows_most : (m r : ℕ) → ℕ
rows_most m r = r * (most m (Row 0) + most m (Coefficients 0))

-- 8.3: the bytes of the longest order that is accepted
abbrev pub length_most : ℕ
length_most = head_most generator_limit exchange_limit + rows_most generator_limit list_limit + most generator_limit (End 0)

-- the most that the generators and exchanges so far take, and those with the images
abbrev pub head_size : Counts → ℕ
head_size c = head_most c.generators c.exchanges

abbrev pub body_size : Counts → ℕ
body_size c = head_size c + c.images * most c.generators (Image 0)

-- how far a scan has come, by the phase; no command is due after END
abbrev pub Reached : (at : ℕ) → Phase → Counts → Type 0
Reached at Empty c = at ≡ 0
Reached at Generators c = at ≤ head_size c
Reached at Exchanges c = at ≤ head_size c
Reached at Images c = at ≤ body_size c
Reached at Vectors c = at ≤ body_size c + most c.generators (Vector 0)
Reached at Rows c = at + most c.generators (Coefficients 0) ≤ body_size c + rows_most c.generators c.rows
Reached at Paired c = at ≤ body_size c + rows_most c.generators c.rows
Reached at Done c = ⊥

-- among generators and exchanges
pub in_head : (at : ℕ) (c : Counts) {h : Phase} → Head h → Reached at h c → at ≤ head_size c
in_head at c generators r = r
in_head at c exchanges r = r

-- behind them or the images
pub in_body : (at : ℕ) (c : Counts) {due : Bool} {h : Phase} → Body due h → Reached at h c → at ≤ body_size c
in_body at c (head k) r = omega (arith, in_head at c k r)
in_body at c images r = r

-- what is short of the longest order
record Short (c : Counts) : Type 0 where
  vector-short : body_size c + most c.generators (Vector 0) < length_most
  rows_short : body_size c + rows_most c.generators c.rows < length_most

-- a bare order has few generators, and another no images
short : (c : Counts) → Few c → Short c
short c few =
    elim (dec_le 1 c.images) [
      | yes h ↦
          (let m = few.bare-ok h in
          let i = le_trans few.images-ok (mul-le-mul few.exchanges-ok m) in
          go bare_limit (exchange_limit * bare_limit) m i (omega arith) (omega arith))
      | no h ↦ go generator_limit 0 few.generators-ok (omega arith) (omega arith) (omega arith)
    ]
  where
    go : (m i : ℕ) → c.generators ≤ m → c.images ≤ i
        → head_most m exchange_limit + i * most m (Image 0) + most m (Vector 0) < length_most → head_most m exchange_limit + i * most m (Image 0) + rows_most m list_limit < length_most → Short c
    go m i g k v r =
        let a : c.images * most c.generators (Image 0) ≤ i * most m (Image 0) = mul-le-mul k (omega arith) in
        let b : rows_most c.generators c.rows ≤ rows_most m list_limit = mul-le-mul few.rows_ok (omega arith) in
        let e = few.exchanges-ok in
        record { vector-short = omega arith; rows_short = omega arith }

-- there is room for END behind
pub far : (h : Phase) (at : ℕ) (c : Counts) → Few c → Reached at h c → at < length_most
far Empty at c few r = omega arith
far Generators at c few r = omega arith
far Exchanges at c few r = omega arith
far Images at c few r = omega (arith, (short c few).vector-short)
far Vectors at c few r = omega (arith, (short c few).vector-short)
far Rows at c few r = omega (arith, (short c few).rows_short)
far Paired at c few r = omega (arith, (short c few).rows_short)
far Done at c few r = absurd r
