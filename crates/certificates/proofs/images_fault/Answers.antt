-- `images_fault` meets its contract. Assumes nothing.
use Rattle.std.proofs.Common.{rules, tests, ◌≡◌, ℕ, Bool, get_or, [], length, ◌+◌, ◌*◌, ◌/◌, ◌≤◌, arith, ap₂, sym, ◌∙◌}
use Rattle.definitions.specs.Limits.{image_limit}
use Rattle.definitions.specs.Lent.{chunks, rows_of, vectors_of}
use Rattle.definitions.specs.Refusals.{fault_where, images_fault, is_uncertified, sent_images}
use Rattle.theory.proofs.CheckCall.{vectors-count}
use Rattle.theory.proofs.Lists.{part-row, row-end}
use Rattle.theory.proofs.Refused.{images-count}
use Rattle.vectors.proofs.Rows.{rows-count}
use Rattle.certificates.proofs.Tests.{image-is, place-in}
use Rattle.certificates.proofs.images_fault.Goals as goal

pub fault_where-requires : goal.fault_where-requires
fault_where-requires c =
    let sequences = length c.args.exchanges.now / c.args.n in
    let width = length c.args.generators.now / c.args.n in
    record {
      callable = λ p h.
          let inside = place-in sequences width p h in
          let room : p * width + width ≤ length c.args.images.now = omega (arith, row-end p (sequences * width) width h) in
          search rules;
    }

pub returns : goal.returns
unfolding images_fault
returns c =
    let n = c.args.n in
    let all = c.args.images.now in
    let generators = vectors_of n c.args.generators.now in
    let sent = rows_of n c.args.exchanges.now in
    let images = sent_images generators sent in
    let test : ℕ → ℕ → ℕ → Bool = λ width count p. is_uncertified image_limit generators (get_or (chunks width count all) p []) (get_or images p []) in
    let width = length c.args.generators.now / n in
    let sequences = length c.args.exchanges.now / n in
    let wide = vectors-count n c.args.generators.now in
    let many = rows-count n c.args.exchanges.now in
    let same : _ ≡ c.fault_where.result = search (rules, tests) in
    record {
      found = same ∙ c.fault_where.ensures.found (test width (sequences * width))
          (λ p b h k. let part = part-row width (sequences * width) p all h in let image = image-is generators sent sequences width p many wide h in search rules)
          ∙ ap₂ (λ (w m : ℕ). fault_where 23 m (test w m)) (sym wide) (sym (images-count generators sent ∙ ap₂ ◌*◌ many wide));
    }
