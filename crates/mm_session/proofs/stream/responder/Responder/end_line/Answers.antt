use Rattle.std.proofs.Common.{◌≡◌, ℕ, List, [], ◌∷◌, ◌++◌, true, refl, sym, ap, ◌∙◌, append-nil, append_assoc, subst}
use Rattle.plain_streams.specs.Requests.{Request, Asks}
use Rattle.mm_session.specs.Buffers.{is_start, kept_of}
use Rattle.mm_session.specs.Responding.{IsLineWith, IsLoadLine}
use Rattle.mm_session.specs.declared.stream.responder.Responder.{Responder}
use Rattle.mm_session.proofs.Kept.{nothing-is, keeps_line-grown}
use Rattle.mm_session.proofs.Lines.{start, start-nothing}
use Rattle.mm_session.proofs.Taking.{takes-behind}
use Rattle.mm_session.proofs.stream.responder.Responder.end_line.Goals as goal

-- a line, its line feed and its block, of which a front is kept
joined : (front tail block rest : List ℕ) → rest ≡ front ++ (tail ++ 10 ∷ []) → rest ++ block ≡ (front ++ tail) ++ 10 ∷ block
joined front tail block rest is =
    ap (λ r. r ++ block) (is ∙ sym (append_assoc front tail (10 ∷ []))) ∙ append_assoc (front ++ tail) (10 ∷ []) block

pub returns-in-Ok-clause-takes : goal.returns-in-Ok-clause-takes
returns-in-Ok-clause-takes c =
    let tail = c.args.tail.now in
    let empty : is_start c.args.self.now.kept.line ≡ true = sym c.is_empty.ensures ∙ c.if-is_empty.true in
    let (block, parts, answers) = c.in-Ok.ensures.answered in
    let (takes, answered) = answers tail c.judge-line.ensures in
    let request : Request = record { line = tail; block = block } in (
      block,
      parts,
      (
        nothing-is _ _ (start-nothing c.args.self.now.kept.line empty) c.requires.block,
        λ rest (front, keeps, is).
            let none : [] ≡ front = start c.args.self.now.kept.line front empty keeps.1 in
            (request, record { line = c.requires.unbroken; block = takes }, joined [] tail block rest (is ∙ ap (λ f. f ++ (tail ++ 10 ∷ [])) (sym none)), answered),
      ),
    )

pub returns-in-Ok-respond_in-clause-takes : goal.returns-in-Ok-respond_in-clause-takes
returns-in-Ok-respond_in-clause-takes c =
    let tail = c.args.tail.now in
    let (block, parts, answers) = c.in-Ok-respond_in.ensures.answered in (
      block,
      parts,
      (
        nothing-is _ _ c.clear.ensures c.requires.block,
        λ rest (front, keeps, is).
            let (unbroken, grown) = keeps_line-grown front tail c.args.self.now.kept.line c.requires.unbroken keeps in
            let (takes, answered) = answers (front ++ tail) (c.judged-line.ensures (front ++ tail) (c.extend-2.ensures ∙ grown)) in
            (record { line = front ++ tail; block = block }, record { line = unbroken; block = takes }, joined front tail block rest is, answered),
      ),
    )

pub returns-in-Err-clause-takes : goal.returns-in-Err-clause-takes
returns-in-Err-clause-takes c =
    let tail = c.args.tail.now in
    let n = c.in-Err.length in
    let empty : is_start c.args.self.now.kept.line ≡ true = sym c.is_empty.ensures ∙ c.if-is_empty.true in
    let extended : Responder = record c.args.self.now { kept = record c.args.self.now.kept { line = c.extend.new.self } } in
    takes-behind (IsLineWith c.args.self.now tail) (IsLoadLine extended n) c.args.self.now c.begin_block.new.self []
    (λ rest (front, keeps, is).
    let (unbroken, grown) = keeps_line-grown front tail c.args.self.now.kept.line c.requires.unbroken keeps in
    let none : [] ≡ front = start c.args.self.now.kept.line front empty keeps.1 in
    let asks : Asks (front ++ tail) n = subst (λ f. Asks (f ++ tail) n) none (c.in-Err.ensures.asks.1 tail c.judge-line.ensures) in
    (front ++ tail, append-nil rest ∙ is ∙ sym (append_assoc front tail (10 ∷ [])), unbroken, asks, c.extend.ensures ∙ grown))
    c.args.bytes.now c.args.bytes.now _ refl (rw c.in-Err.ensures.unchanged at c.begin_block.ensures.takes)

pub returns-in-Err-respond_in-clause-takes : goal.returns-in-Err-respond_in-clause-takes
returns-in-Err-respond_in-clause-takes c =
    let tail = c.args.tail.now in
    let n = c.in-Err-respond_in.length in
    let extended : Responder = record c.args.self.now { kept = record c.args.self.now.kept { line = c.extend-2.new.self } } in
    takes-behind (IsLineWith c.args.self.now tail) (IsLoadLine extended n) c.args.self.now c.begin_block-in-Err-respond_in.new.self []
    (λ rest (front, keeps, is).
    let (unbroken, grown) = keeps_line-grown front tail c.args.self.now.kept.line c.requires.unbroken keeps in
    let kept : c.extend-2.new.self ≡ kept_of (front ++ tail) = c.extend-2.ensures ∙ grown in
    (front ++ tail, append-nil rest ∙ is ∙ sym (append_assoc front tail (10 ∷ [])), unbroken, c.in-Err-respond_in.ensures.asks.1 (front ++ tail) (c.judged-line.ensures (front ++ tail) kept), kept))
    c.args.bytes.now c.args.bytes.now _ refl (rw c.in-Err-respond_in.ensures.unchanged at c.begin_block-in-Err-respond_in.ensures.takes)
