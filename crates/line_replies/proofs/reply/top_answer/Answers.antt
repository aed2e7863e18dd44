use Rattle.std.proofs.Common.{◌≡◌, ◌<◌, ◌∙◌, sym, ap, subst, ℕ, List, length, map, arith}
use Rattle.std.specs.Prelude.{IfOk}
use Rattle.std.specs.List.{All}
use Rattle.std.proofs.lemmas.List.{length-map}
use Rattle.collection_model.specs.Collection.{Collection}
use Rattle.command_model.specs.Replies.{IsTopText, lists_of}
use Rattle.line_replies.proofs.CursorLists.{is-query, top-text}
use Rattle.line_replies.proofs.Parsed.{room-for}
use Rattle.line_replies.proofs.reply.top_answer.Goals as goal

pub top-requires-clause-named : goal.top-requires-clause-named
top-requires-clause-named g c = subst (All (λ t. t < length (g.L.TermLists.collection c.args.lists.now).lists)) (sym c.terms-named.ensures.value) c.requires.below

pub top-requires-clause-lists : goal.top-requires-clause-lists
top-requires-clause-lists g c = ap (map g.L.Cursor.DocCursor.list) c.as_mut_slice.ensures.value ∙ c.in_ok-set_cursors.ensures.lists

pub top-requires-clause-query : goal.top-requires-clause-query
top-requires-clause-query g c =
    let each : length c.weights.result.now ≡ length c.terms-named.result.now =
    ap length c.weights.ensures.value ∙ length-map c.args.terms.now (λ t. t.1) ∙ sym (length-map c.args.terms.now (λ t. t.0)) ∙ sym (ap length c.terms-named.ensures.value) in
    is-query g.L.Cursor.DocCursor.list g.L.Cursor.DocCursor.place (g.L.TermLists.collection c.args.lists.now) c.terms-named.result.now c.weights.result.now c.set_cursors.new.cursors.items c.as_mut_slice.result.now
    (g.met.L.TermLists.in_range c.args.lists.now) (subst (All (λ t. t < length (g.L.TermLists.collection c.args.lists.now).lists)) (sym c.terms-named.ensures.value) c.requires.below)
    (omega (arith, c.requires.few, ap length c.terms-named.ensures.value)) each c.weights.ensures.weights c.in_ok-set_cursors.ensures.lists c.in_ok-set_cursors.ensures.start c.as_mut_slice.ensures.value

pub returns-clause-text : goal.returns-clause-text
returns-clause-text g c =
    let asked : Collection = g.L.TermLists.collection c.args.lists.now in
    let lists : map g.L.Cursor.DocCursor.list c.as_mut_slice.result.now ≡ lists_of asked c.terms-named.result.now = ap (map g.L.Cursor.DocCursor.list) c.as_mut_slice.ensures.value ∙ c.in_ok-set_cursors.ensures.lists in
    let text = top-text asked.documents (map g.L.Cursor.DocCursor.list c.as_mut_slice.result.now) (lists_of asked c.terms-named.result.now) c.weights.result.now c.args.k
    c.in_ok-top.top.items c.as_slice.result.now c.top_reply.result lists c.in_ok-top.ensures.first c.as_slice.ensures.value c.top_reply.ensures in
    let of_terms = subst (λ (ts : List ℕ). IfOk c.top_reply.result (λ text. IsTopText asked.documents (lists_of asked ts) c.weights.result.now c.args.k text.items)) c.terms-named.ensures.value text in
    subst (λ (ws : List ℕ). IfOk c.top_reply.result (λ text. IsTopText asked.documents (lists_of asked (map (λ t. t.0) c.args.terms.now)) ws c.args.k text.items)) c.weights.ensures.value of_terms

pub returns-in_err-set_cursors-clause-room : goal.returns-in_err-set_cursors-clause-room
returns-in_err-set_cursors-clause-room g c =
    room-for _ _ _ _ c.terms-named.ensures.value c.in_err-set_cursors.ensures.room

pub returns-in_err-top-clause-room : goal.returns-in_err-top-clause-room
returns-in_err-top-clause-room g c =
    room-for _ _ _ _ c.terms-named.ensures.value c.in_ok-set_cursors.ensures.room

pub returns-clause-room : goal.returns-clause-room
returns-clause-room g c =
    room-for _ _ _ _ c.terms-named.ensures.value c.in_ok-set_cursors.ensures.room
