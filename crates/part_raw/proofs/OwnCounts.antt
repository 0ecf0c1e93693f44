-- The counts of a partition are as many as its slots: where they or its block change, and where partitions come and go.
use Rattle.std.proofs.Common.{◌≡◌, ℕ, ◌<◌, List, [], ◌∷◌, ◌++◌, length, get_or, set, take, Option, sym, ap, subst, ◌∙◌, inl, inr, arith}
use Rattle.std.proofs.lemmas.Bool.{cases_eq}
use Rattle.std.proofs.lemmas.List.{length-set, length_push, length-take, get_or-set_same, get_or-set_other, get_or-take, get_or_push, set-get_or}
use Rattle.part_raw.specs.Rows.{slots_of}
use Rattle.part_raw.specs.Open.{HaveCounts}
use Rattle.part_raw.proofs.Bitmaps.{get_or-push_other}
use Rattle.part_raw.proofs.Parts.{read_block}
use Rattle.part_raw.proofs.Rows.{slots_of-some}

module _ {T : Type 0} where
  -- a block that has places is another that has some
  pub as_many_slots : (blocks : List (List (Option T))) (part : ℕ) (block new : List (Option T)) → part < length blocks → block ≡ get_or blocks part block → 0 < length block → 0 < length new → slots_of (get_or blocks part []) ≡ slots_of new
  as_many_slots blocks part block new within read some some' = ap slots_of (read_block blocks block part within read) ∙ slots_of-some block some ∙ sym (slots_of-some new some')

  module _ (blocks : List (List (Option T))) (counts : List (List ℕ)) (own : HaveCounts blocks counts) where
    pub own-set : (part : ℕ) (block : List (Option T)) (its : List ℕ) → part < length blocks → (part < length counts → length its ≡ slots_of block) → HaveCounts (set blocks part block) (set counts part its)
    own-set part block its within long other below =
        elim (cases_eq other part) [
          | inl same ↦
              let among : part < length counts = omega (arith, same, below, length-set counts part its) in
              ap (λ k. length (get_or (set counts part its) k [])) same ∙ ap length (get_or-set_same counts part its [] among) ∙ long among
              ∙ ap slots_of (sym (get_or-set_same blocks part block [] within)) ∙ ap (λ k. slots_of (get_or (set blocks part block) k [])) (sym same)
          | inr differs ↦
              ap length (get_or-set_other counts part other its [] differs) ∙ own other (omega (arith, below, length-set counts part its))
              ∙ ap slots_of (sym (get_or-set_other blocks part other block [] differs))
        ]

    -- the block alone is another
    pub own-block : (part : ℕ) (block : List (Option T)) → part < length blocks → slots_of (get_or blocks part []) ≡ slots_of block → HaveCounts (set blocks part block) counts
    own-block part block within same =
        subst (λ (c : List (List ℕ)). HaveCounts (set blocks part block) c) (set-get_or counts part [])
        (own-set part block (get_or counts part []) within (λ among. own part among ∙ same))

    -- a count alone is another
    pub own-counts : (part slot n : ℕ) → part < length blocks → HaveCounts blocks (set counts part (set (get_or counts part []) slot n))
    own-counts part slot n within =
        subst (λ (b : List (List (Option T))). HaveCounts b (set counts part (set (get_or counts part []) slot n))) (set-get_or blocks part [])
        (own-set part (get_or blocks part []) (set (get_or counts part []) slot n) within (λ among. length-set (get_or counts part []) slot n ∙ own part among))

    pub own-push : (block : List (Option T)) (its : List ℕ) → length counts ≡ length blocks → length its ≡ slots_of block → HaveCounts (blocks ++ block ∷ []) (counts ++ its ∷ [])
    own-push block its beside long other below =
        elim (cases_eq other (length counts)) [
          | inl at ↦ ap length (get_or_push counts its [] other (sym at)) ∙ long ∙ ap slots_of (sym (get_or_push blocks block [] other (omega (arith, at, beside))))
          | inr differs ↦
              ap length (get_or-push_other counts other its [] differs) ∙ own other (omega (arith, below, differs, length_push counts its))
              ∙ ap slots_of (sym (get_or-push_other blocks other block [] (λ at. differs (omega (arith, at, beside)))))
        ]

    -- the counts of the first partitions
    pub own-take : (n : ℕ) → HaveCounts blocks (take n counts)
    own-take n part below = let long = length-take n counts in ap length (get_or-take n counts part [] (omega (arith, below, long))) ∙ own part (omega (arith, below, long))

  -- the last partition goes
  pub own-front : (blocks : List (List (Option T))) (block : List (Option T)) (counts : List (List ℕ)) → HaveCounts (blocks ++ block ∷ []) (take (length (blocks ++ block ∷ [])) counts) → HaveCounts blocks (take (length blocks) counts)
  own-front blocks block counts own part below =
      let long = length-take (length blocks) counts in
      let within : part < length blocks = omega (arith, below, long) in
      let one = length_push blocks block in
      let before : part < length (blocks ++ block ∷ []) = omega (arith, within, one) in
      ap length (get_or-take (length blocks) counts part [] within ∙ sym (get_or-take (length (blocks ++ block ∷ [])) counts part [] before))
      ∙ own part (omega (arith, below, long, before, length-take (length (blocks ++ block ∷ [])) counts))
      ∙ ap slots_of (get_or-push_other blocks part block [] (λ at. absurd (omega (arith, at, within))))
