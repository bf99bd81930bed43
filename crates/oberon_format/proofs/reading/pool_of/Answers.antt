use Rattle.oberon_format.proofs.Common.{[], ap, arith, length, length-map-range_with_len, List, map-range_with_len_more, page_at, pages_at, sym, words_from, ℕ, ◌++◌, ◌∙◌, ◌∷◌}
use Rattle.oberon_format.proofs.reading.pool_of.Goals as goal

pub push-requires : goal.push-requires
push-requires c =
    let len = ap (λ (pool : List (List ℕ)). length pool) c.loop-p.invariant ∙ length-map-range_with_len (page_at c.args.bytes.now) 0 c.loop-p.p in
    omega arith

pub loop-p-preserved : goal.loop-p-preserved
loop-p-preserved c =
    let bytes = c.args.bytes.now in let p = c.loop-p.p in
    c.in_ok-push.ensures.ok ∙ ap (λ (pool : List (List ℕ)). pool ++ c.words_from-words.result ∷ []) c.loop-p.invariant
    ∙ ap (λ (page : List ℕ). pages_at bytes p ++ page ∷ []) (c.words_from-words.ensures ∙ ap (λ (at : ℕ). words_from bytes at 0 256) c.page_offset.ensures)
    ∙ sym (map-range_with_len_more (page_at bytes) 0 p p (omega arith))
