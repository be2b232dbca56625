-- Specification 10: the proved sample orders, as lent calls with the areas that programs lend. Assumes nothing.
use Rattle.definitions.specs.Refusals.{Outcome, accepted, refused}
use Rattle.std.specs.Prelude.{◌≡◌, List, [], ◌∷◌, ◌++◌, ℕ, ◌*◌, ◌-◌, ℤ, pos, neg_ℤ, length, replicate}
use Rattle.definitions.specs.declared.Answer.{Answer}
use Rattle.definitions.specs.declared.Answer.TheVariants.{Moves, Split, Passed}
use Rattle.definitions.specs.Limits.{group_limit, list_limit, lent_pieces, piece_width}
use Rattle.definitions.specs.Lent.{Order, order_of}
use Rattle.definitions.specs.Calls.{list_call, split_call, check_call}

-- a lent call; `list_rows` are the list rows lent
pub data Call : Type 0 where
  list : Order → (list_rows : ℕ) → Call
  split : Order → (vector : List ℤ) → Call
  check : Order → (rows coefficients : List ℤ) → Call

-- the answer, and what the lent areas hold; an area that the call does not lend is empty
pub record End : Type 0 where
  pub answer : Outcome Answer
  pub list : List ℤ
  pub group : List ℕ
  pub pieces : List ℤ

unfoldable pub called : Call → End
called (list order list_rows) =
    let end = list_call order (order.n * list_rows) (order.n * group_limit) in
    record { answer = end.answer; list = end.list; group = end.group; pieces = [] }
called (split order vector) =
    let end = split_call order vector (order.n * list_limit) (order.n * group_limit) (piece_width * lent_pieces) in
    record { answer = end.answer; list = end.list; group = end.group; pieces = end.pieces }
called (check order rows coefficients) =
    let end = check_call order rows coefficients (order.n * group_limit) in
    record { answer = end.answer; list = []; group = end.group; pieces = [] }

-- a line of the table
pub record Sample : Type 0 where
  pub call : Call
  pub end : End

infix 80 +◌
infix 80 −◌
abbrev +◌ : ℕ → ℤ
+ k = pos k

abbrev −◌ : ℕ → ℤ
− k = neg_ℤ (pos k)

-- an area of `size` numbers: these, and zeros
area : {A : Type 0} → A → ℕ → List A → List A
area blank size numbers = numbers ++ replicate (size - length numbers) blank

-- the end of a List with these answer, rows and exchanges
moves : ℕ → Outcome Answer → List ℤ → List ℕ → End
unfolding area
moves n answer rows table =
    record {
      answer = answer;
      list = area (pos 0) (n * list_limit) rows;
      group = area 0 (n * group_limit) table;
      pieces = [];
    }

-- the end of a refused call that lends so many list rows and pieces
turned_down : ℕ → Outcome Answer → ℕ → ℕ → End
unfolding area
turned_down n answer list_rows pieces =
    record {
      answer = answer;
      list = area (pos 0) (n * list_rows) [];
      group = area 0 (n * group_limit) [];
      pieces = area (pos 0) (piece_width * pieces) [];
    }

p2 : Order
p2 = order_of 1 (+ 2 ∷ + 3 ∷ []) [] []

p3 : List ℤ
p3 = + 1 ∷ − 1 ∷ + 0 ∷ + 0 ∷ + 1 ∷ − 1 ∷ []

p4 : Order
p4 = order_of 3 (+ 1 ∷ + 0 ∷ − 1 ∷ + 2 ∷ − 1 ∷ + 0 ∷ + 0 ∷ − 1 ∷ + 2 ∷ []) (3 ∷ 2 ∷ 1 ∷ []) []

p15 : Order
p15 = order_of 2 (+ 2 ∷ − 2 ∷ + 3 ∷ + 0 ∷ []) [] []

p17 : Order
unfolding p3
p17 = order_of 3 p3 (2 ∷ 3 ∷ 1 ∷ []) (− 1 ∷ − 1 ∷ + 1 ∷ + 0 ∷ [])

unfoldable pub samples : List Sample
unfolding area moves turned_down p2 p3 p4 p15 p17
samples =
    -- P1: n 1, no generators
    record { call = list (order_of 1 [] [] []) list_limit; end = moves 1 (accepted (Moves 0 1 0 0)) [] (1 ∷ []) }
    -- P2: (2), (3)
    ∷ record { call = list p2 list_limit; end = moves 1 (accepted (Moves 1 1 3 12)) (+ 1 ∷ []) (1 ∷ []) }
    -- P3: (1,−1,0), (0,1,−1)
    ∷ record {
      call = list (order_of 3 p3 [] []) list_limit;
      end =
          moves 3 (accepted (Moves 3 1 3 12)) (+ 1 ∷ + 0 ∷ − 1 ∷ + 1 ∷ − 1 ∷ + 0 ∷ + 0 ∷ + 1 ∷ − 1 ∷ [])
          (1 ∷ 2 ∷ 3 ∷ []);
    }
    -- P4: the order of the sample file
    ∷ record {
      call = list p4 list_limit;
      end =
          moves 3 (accepted (Moves 3 2 3 24)) (+ 1 ∷ + 0 ∷ − 1 ∷ + 2 ∷ − 1 ∷ + 0 ∷ + 1 ∷ − 1 ∷ + 1 ∷ [])
          (1 ∷ 2 ∷ 3 ∷ 3 ∷ 2 ∷ 1 ∷ []);
    }
    -- P5: P4 with 2 list rows
    ∷ record { call = list p4 2; end = turned_down 3 (refused 13 6) 2 0 }
    -- P6: (4000,1), (1,4000)
    ∷ record {
      call = list (order_of 2 (+ 4_000 ∷ + 1 ∷ + 1 ∷ + 4_000 ∷ []) [] []) list_limit;
      end = turned_down 2 (refused 12 7) list_limit 0;
    }
    -- P7: P2, split (5)
    ∷ record {
      call = split p2 (+ 5 ∷ []);
      end = record {
        answer = accepted (Split 1 1 1 3 12);
        list = area (pos 0) list_limit (+ 1 ∷ []);
        group = area 0 group_limit (1 ∷ []);
        pieces = area (pos 0) (piece_width * lent_pieces) (+ 0 ∷ + 0 ∷ + 1 ∷ + 5 ∷ []);
      };
    }
    -- P8: (2), split (1)
    ∷ record {
      call = split (order_of 1 (+ 2 ∷ []) [] []) (+ 1 ∷ []);
      end = turned_down 1 (refused 15 0) list_limit lent_pieces;
    }
    -- P9: (1,0), exchange 2 1
    ∷ record {
      call = list (order_of 2 (+ 1 ∷ + 0 ∷ []) (2 ∷ 1 ∷ []) []) list_limit;
      end = turned_down 2 (refused 11 0) list_limit 0;
    }
    -- P10: Check (1): rows (1), (2), coefficients 1, 2
    ∷ record {
      call = check (order_of 1 (+ 1 ∷ []) [] []) (+ 1 ∷ + 2 ∷ []) (+ 1 ∷ + 2 ∷ []);
      end = turned_down 1 (refused 22 1) 0 0;
    }
    -- P11: Check (1): no rows
    ∷ record { call = check (order_of 1 (+ 1 ∷ []) [] []) [] []; end = turned_down 1 (refused 20 0) 0 0 }
    -- P12: Check P3's generators as rows, coefficients 1 0 and 0 1
    ∷ record {
      call = check (order_of 3 p3 [] []) p3 (+ 1 ∷ + 0 ∷ + 0 ∷ + 1 ∷ []);
      end = turned_down 3 (refused 21 3) 0 0;
    }
    -- P15: (2,−2), (3,0)
    ∷ record {
      call = list p15 list_limit;
      end =
          moves 2 (accepted (Moves 5 1 5 30)) (+ 2 ∷ − 2 ∷ + 3 ∷ + 0 ∷ + 1 ∷ + 2 ∷ + 1 ∷ − 4 ∷ + 0 ∷ + 6 ∷ [])
          (1 ∷ 2 ∷ []);
    }
    -- P16: Check P15's rows by weight: (3,0), (1,2), (2,−2), (1,−4), (0,6), coefficients 0 1, −1 1, 1 0, 2 −1, −3 2
    ∷ record {
      call =
          check p15 (+ 3 ∷ + 0 ∷ + 1 ∷ + 2 ∷ + 2 ∷ − 2 ∷ + 1 ∷ − 4 ∷ + 0 ∷ + 6 ∷ [])
          (+ 0 ∷ + 1 ∷ − 1 ∷ + 1 ∷ + 1 ∷ + 0 ∷ + 2 ∷ − 1 ∷ − 3 ∷ + 2 ∷ []);
      end = turned_down 2 (refused 18 2) 0 0;
    }
    -- P17: bare, (1,−1,0), (0,1,−1), exchange 2 3 1, coefficients of images −1 −1 and 1 0
    ∷ record {
      call = list p17 list_limit;
      end = moves 3 (accepted (Moves 1 3 1 6)) (+ 1 ∷ + 0 ∷ − 1 ∷ []) (1 ∷ 2 ∷ 3 ∷ 2 ∷ 3 ∷ 1 ∷ 3 ∷ 1 ∷ 2 ∷ []);
    }
    -- P18: P17, split (2,−1,−1)
    ∷ record {
      call = split p17 (+ 2 ∷ − 1 ∷ − 1 ∷ []);
      end = record {
        answer = accepted (Split 2 1 3 1 6);
        list = area (pos 0) (3 * list_limit) (+ 1 ∷ + 0 ∷ − 1 ∷ []);
        group = area 0 (3 * group_limit) (1 ∷ 2 ∷ 3 ∷ 2 ∷ 3 ∷ 1 ∷ 3 ∷ 1 ∷ 2 ∷ []);
        pieces =
            area (pos 0) (piece_width * lent_pieces) (+ 0 ∷ + 0 ∷ + 1 ∷ + 1 ∷ + 0 ∷ + 2 ∷ − 1 ∷ + 1 ∷ []);
      };
    }
    -- P19: Check P17's list, coefficients 1 1
    ∷ record {
      call = check p17 (+ 1 ∷ + 0 ∷ − 1 ∷ []) (+ 1 ∷ + 1 ∷ []);
      end = record {
        answer = accepted (Passed 1 6);
        list = [];
        group = area 0 (3 * group_limit) (1 ∷ 2 ∷ 3 ∷ 2 ∷ 3 ∷ 1 ∷ 3 ∷ 1 ∷ 2 ∷ []);
        pieces = [];
      };
    }
    -- P20: P17 with the images by the inverse exchange: 0 1 and −1 −1
    ∷ record {
      call = list (order_of 3 p3 (2 ∷ 3 ∷ 1 ∷ []) (+ 0 ∷ + 1 ∷ − 1 ∷ − 1 ∷ [])) list_limit;
      end = turned_down 3 (refused 23 0) list_limit 0;
    }
    -- P21: P17 with a second exchange 3 1 2, and the last image wrong: 0 1 and −1 0
    ∷ record {
      call =
          list (order_of 3 p3 (2 ∷ 3 ∷ 1 ∷ 3 ∷ 1 ∷ 2 ∷ [])
          (− 1 ∷ − 1 ∷ + 1 ∷ + 0 ∷ + 0 ∷ + 1 ∷ − 1 ∷ + 0 ∷ [])) list_limit;
      end = turned_down 3 (refused 23 3) list_limit 0;
    }
    -- P22: P17 with one coefficient too few
    ∷ record {
      call = list (order_of 3 p3 (2 ∷ 3 ∷ 1 ∷ []) (− 1 ∷ − 1 ∷ + 1 ∷ [])) list_limit;
      end = turned_down 3 (refused 6 0) list_limit 0;
    }
    ∷ []

-- each line's call ends as the line says
abbrev pub Hold : List Sample → Type 0
Hold [] = Unit {0}
Hold (sample ∷ lines) = (called sample.call ≡ sample.end) × Hold lines
