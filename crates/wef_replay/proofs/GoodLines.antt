-- The lines that words make have values of the kinds that lines have.
use Rattle.std.proofs.Common.{◌≡◌, ℕ, Bool, true, false, ◌&&◌, List, [], ◌∷◌, refl}
use Rattle.std.specs.Prelude.{Option, Some, None, codes, is_some}
use Rattle.std.specs.List.{list_all}
use Rattle.std.specs.Option.{option_map}
use Rattle.std.specs.Str.{chars, is_utf8}
use Rattle.std.proofs.lemmas.Bool.{and_parts}
use lib.Utf8.{encode}
use Rattle.wef_base.specs.Names.{same}
use Rattle.wef_base.specs.Words.{decoded, parts, utf8}
use Rattle.wef_base.specs.Characters.{is_xml_text}
use Rattle.wef_base.specs.declared.numbers.TheConstants.{MAX}
use Rattle.wef_event.specs.Unnumbered.{plain_numbered}
use Rattle.wef_event.specs.declared.unnumbered.PlainEvent.{PlainEvent}
use Rattle.wef_query.specs.Queries.{all_events_of}
use Rattle.wef_query.specs.declared.QueryList.{QueryList}
use Rattle.wef_query.proofs.SaidPaths.{all_grouped, any_says_path}
use Rattle.wef_times.specs.declared.durations.TheConstants.{LIMIT}
use Rattle.wef_replay_values.specs.Reading.{with_first}
use Rattle.wef_replay_values.specs.Values.{after_word, channel_word, channel_words, end_word, joined, number_word, sending_source_word, source_word, subscription_word}
use Rattle.wef_replay_values.specs.declared.end_name.EndName.TheVariants as end
use Rattle.wef_replay.specs.BatchWords.{empty_batch, read_words}
use Rattle.wef_lines.specs.Documents.{new_event_in}
use Rattle.wef_replay.specs.Good.{are_limits, are_queries, fits_always, may_be_written, is_between, is_channel, is_count, is_end, is_line, is_no_collector, is_query, is_query_text, is_source, is_subscription}
use Rattle.wef_replay.specs.Grammar.{all_of, batch_line, calm_line, collector_line_of, commit_words, crash_line, deliver_line, does_nothing, event_if_xml, event_words, failure_line_of, fitting_event, forget_line, if_fits, limit_words, line_of_words, meaning, message_line_of, only_number_words, only_source_words, only_subscription_words, other_line, pair_words, print_line, query_words, request_line, seen_words, settle_line, show_line, source_line, source_line_of, subscribe_at_line, subscribe_line, write_line, write_xml_line, xml_event_words}
use Rattle.wef_replay.specs.PlainEvents.{HasPlainEvents}
use Rattle.wef_replay.specs.declared.lines.Line.{Line}
use Rattle.wef_replay.specs.declared.lines.Line.TheVariants.{Subscribe, SubscribeAt, End, Batch, Source, Write, WriteXml, Ask, Poll, Deliver, Back, Lost, Shut, Print, Status, Crash, Fail, Stop, Tick}
use Rattle.wef_replay.proofs.Gifts.{AllOf, all_of-if, all_of-map, all_of-tested, all_of-then}
use Rattle.wef_replay.proofs.GoodBatches.{good-batch_words}
use Rattle.wef_replay.proofs.GoodNames.{decoded_is_text, good-channel, good-sending_source, good-source, good-subscription}
use Rattle.wef_replay.proofs.GoodNumbers.{count_from_between, good-number}
use Rattle.wef_replay.proofs.SaidEvents.{good-new_event_in}
use Rattle.wef_replay.proofs.SaidLists.{good-list_in}

-- the line's values are of their kinds, and its events are plain
abbrev pub IsGoodLine : Line → Type 0
IsGoodLine line = (is_line line ≡ true) × HasPlainEvents line

-- nothing is said of what is given
any : {X : Type 0} (given : Option X) → AllOf (λ _. Unit {0}) given
any None = tt
any (Some given) = tt

-- ---- subscriptions

IsGoodQuery : List (List ℕ) → Type 0
IsGoodQuery channels = list_all is_query (all_events_of channels) ≡ true

-- the text of all events is a query's
any_text : is_query_text (codes "*") ≡ true
unfolding chars encode is_utf8
any_text = any_says_path

good-with_first : (first : Option (List ℕ)) (rest : Option (List (List ℕ))) → AllOf (λ c. is_channel c ≡ true) first → AllOf IsGoodQuery rest → AllOf IsGoodQuery (with_first first rest)
unfolding IsGoodQuery
good-with_first None rest h k = tt
good-with_first (Some c) None h k = tt
good-with_first (Some c) (Some cs) h k = λ i. (h i && any_text i) && k i

good-channel_words : (words : List (List ℕ)) → AllOf IsGoodQuery (channel_words words)
unfolding IsGoodQuery
good-channel_words [] = refl
good-channel_words (word ∷ words) = good-with_first (channel_word word) (channel_words words) (good-channel word) (good-channel_words words)

good-some_channels : (word : List ℕ) (words : List (List ℕ)) → AllOf (λ channels. are_queries (all_events_of channels) ≡ true) (channel_words (word ∷ words))
unfolding IsGoodQuery
good-some_channels word words = by (channel_word word) (channel_words words) (good-channel word) (good-channel_words words)
  where
    by : (first : Option (List ℕ)) (rest : Option (List (List ℕ))) → AllOf (λ c. is_channel c ≡ true) first → AllOf IsGoodQuery rest → AllOf (λ channels. are_queries (all_events_of channels) ≡ true) (with_first first rest)
    by None rest h k = tt
    by (Some c) None h k = tt
    by (Some c) (Some cs) h k = λ i. all_grouped cs i && ((h i && any_text i) && k i)

good-query_words : (kind : List ℕ) (words : List (List ℕ)) → AllOf (λ (list : QueryList). are_queries list.items ≡ true) (query_words kind words)
good-query_words kind [] = tt
good-query_words kind (word ∷ words) =
    all_of-if _ (same kind (codes "all")) _ _
    (all_of-map _ (λ (list : QueryList). are_queries list.items ≡ true) all_of (channel_words (word ∷ words)) (good-some_channels word words) (λ cs are. are))
    (all_of-if _ (same kind (codes "query")) _ None (good-list_in (joined 32 word words)) tt)

good-limit_words : (items bytes beat : List ℕ) → AllOf (λ limits. are_limits limits.0 limits.1 limits.2 ≡ true) (limit_words items bytes beat)
good-limit_words items bytes beat =
    all_of-then _ (λ limits. are_limits limits.0 limits.1 limits.2 ≡ true) _ (number_word 1 10000 items) (good-number 1 10000 items) (λ i is_i.
    all_of-then _ (λ limits. are_limits limits.0 limits.1 limits.2 ≡ true) _ (number_word 8192 4194304 bytes) (good-number 8192 4194304 bytes) (λ b is_b.
    all_of-map _ (λ limits. are_limits limits.0 limits.1 limits.2 ≡ true) (λ h. (i, b, h)) (number_word 1 86400000 beat) (good-number 1 86400000 beat)
    (λ h is_h. λ j. is_i j && is_b j && is_h j)))

good-subscribe_line : (words : List (List ℕ)) → AllOf IsGoodLine (subscribe_line words)
good-subscribe_line [] = tt
good-subscribe_line (a ∷ []) = tt
good-subscribe_line (a ∷ b ∷ []) = tt
good-subscribe_line (a ∷ b ∷ c ∷ []) = tt
good-subscribe_line (a ∷ b ∷ c ∷ d ∷ []) = tt
good-subscribe_line (sub ∷ items ∷ bytes ∷ beat ∷ kind ∷ words) =
    all_of-then _ IsGoodLine _ (limit_words items bytes beat) (good-limit_words items bytes beat) (λ limits are_limits.
    all_of-then _ IsGoodLine _ (subscription_word sub) (good-subscription sub) (λ u is_u.
    all_of-map _ IsGoodLine (λ query. Subscribe u limits.0 limits.1 limits.2 query) (query_words kind words) (good-query_words kind words)
    (λ query are. (λ j. is_u j && are_limits j && are j, tt))))

good-subscribe_at_line : (words : List (List ℕ)) → AllOf IsGoodLine (subscribe_at_line words)
good-subscribe_at_line [] = tt
good-subscribe_at_line (a ∷ []) = tt
good-subscribe_at_line (a ∷ b ∷ []) = tt
good-subscribe_at_line (a ∷ b ∷ c ∷ []) = tt
good-subscribe_at_line (a ∷ b ∷ c ∷ d ∷ []) = tt
good-subscribe_at_line (a ∷ b ∷ c ∷ d ∷ e ∷ []) = tt
good-subscribe_at_line (a ∷ b ∷ c ∷ d ∷ e ∷ f ∷ []) = tt
good-subscribe_at_line (sub ∷ source ∷ items ∷ bytes ∷ beat ∷ expires ∷ kind ∷ words) =
    all_of-then _ IsGoodLine _ (limit_words items bytes beat) (good-limit_words items bytes beat) (λ limits are_limits.
    all_of-then _ IsGoodLine _ (number_word 1 LIMIT expires) (good-number 1 LIMIT expires) (λ e is_e.
    all_of-then _ IsGoodLine _ (subscription_word sub) (good-subscription sub) (λ u is_u.
    all_of-then _ IsGoodLine _ (source_word source) (good-source source) (λ s is_s.
    all_of-map _ IsGoodLine (λ query. SubscribeAt u s limits.0 limits.1 limits.2 e query) (query_words kind words) (good-query_words kind words)
    (λ query are. (λ j. is_u j && is_s j && are_limits j && is_e j && are j, tt))))))

good-only_subscription_words : (words : List (List ℕ)) → AllOf (λ u. is_subscription u ≡ true) (only_subscription_words words)
good-only_subscription_words [] = tt
good-only_subscription_words (sub ∷ []) = good-subscription sub
good-only_subscription_words (a ∷ b ∷ more) = tt

good-end_line : (words : List (List ℕ)) → AllOf IsGoodLine (option_map (λ u. End u) (only_subscription_words words))
good-end_line words = all_of-map _ IsGoodLine (λ u. End u) (only_subscription_words words) (good-only_subscription_words words) (λ u h. (h, tt))

good-batch_line : (words : List (List ℕ)) → AllOf IsGoodLine (batch_line words)
good-batch_line [] = tt
good-batch_line (a ∷ []) = tt
good-batch_line (a ∷ b ∷ []) = tt
good-batch_line (sub ∷ source ∷ word ∷ words) =
    all_of-then _ IsGoodLine _ (subscription_word sub) (good-subscription sub) (λ u is_u.
    all_of-then _ IsGoodLine _ (sending_source_word source) (good-sending_source source) (λ s is_s.
    all_of-map _ IsGoodLine (λ b. Batch u s b) (read_words empty_batch (word ∷ words)) (good-batch_words word words) (λ b is_b.
    let parts = and_parts (is_source s) (is_no_collector s) is_s in
    (λ i. is_u i && parts.0 i && parts.1 i && is_b.0 i, is_b.1))))

-- ---- sources

good-source_line : (words : List (List ℕ)) → AllOf IsGoodLine (source_line words)
good-source_line [] = tt
good-source_line (a ∷ []) = tt
good-source_line (source ∷ capacity ∷ []) =
    all_of-then _ IsGoodLine _ (sending_source_word source) (good-sending_source source) (λ s is_s.
    all_of-map _ IsGoodLine (λ n. Source s n) (number_word 1 1000000 capacity) (good-number 1 1000000 capacity) (λ n is_n. (λ i. is_s i && is_n i, tt)))
good-source_line (a ∷ b ∷ c ∷ more) = tt

good-if_fits : (event : PlainEvent) → is_channel event.channel ≡ true → is_utf8 event.word ≡ true → AllOf (λ event. fits_always event ≡ true) (if_fits event)
good-if_fits event channel text =
    all_of-tested (λ (event : PlainEvent). fits_always event ≡ true) (is_some (plain_numbered event MAX)) event (λ fits. λ i. channel i && text i && fits i)

good-event_if_xml : (c : List ℕ) (i l : ℕ) (w : List ℕ) (b : Bool) (e : is_xml_text w ≡ b) → is_channel c ≡ true → is_utf8 w ≡ true → AllOf (λ event. fits_always event ≡ true) (event_if_xml c i l w b e)
good-event_if_xml c i l w true e channel text = good-if_fits (record { channel = c; id = i; level = l; word = w; characters = e }) channel text
good-event_if_xml c i l w false e channel text = tt

good-event_words : (channel id level word : List ℕ) → AllOf (λ event. fits_always event ≡ true) (event_words channel id level word)
good-event_words channel id level word =
    all_of-then _ _ _ (channel_word channel) (good-channel channel) (λ c is_c.
    all_of-then _ _ _ (number_word 0 4294967295 id) (good-number 0 4294967295 id) (λ i is_i.
    all_of-then _ _ _ (number_word 0 4294967295 level) (good-number 0 4294967295 level) (λ l is_l.
    all_of-then _ _ (λ w. fitting_event c i l w) (decoded word) (decoded_is_text word) (λ w is_w. good-event_if_xml c i l w (is_xml_text w) refl is_c is_w))))

good-write_line : (words : List (List ℕ)) → AllOf IsGoodLine (write_line words)
good-write_line [] = tt
good-write_line (a ∷ []) = tt
good-write_line (a ∷ b ∷ []) = tt
good-write_line (a ∷ b ∷ c ∷ []) = tt
good-write_line (a ∷ b ∷ c ∷ d ∷ []) = tt
good-write_line (source ∷ channel ∷ id ∷ level ∷ word ∷ []) =
    all_of-then _ IsGoodLine _ (source_word source) (good-source source) (λ s is_s.
    all_of-map _ IsGoodLine (λ event. Write s event) (event_words channel id level word) (good-event_words channel id level word) (λ event fits. (λ i. is_s i && fits i, tt)))
good-write_line (a ∷ b ∷ c ∷ d ∷ e ∷ f ∷ more) = tt

good-xml_event_words : (word : List ℕ) (words : List (List ℕ)) → AllOf (λ event. may_be_written event ≡ true) (xml_event_words word words)
good-xml_event_words word words =
    all_of-then (λ _. Unit {0}) _ new_event_in (utf8 (joined 32 word words)) (any (utf8 (joined 32 word words))) (λ text _. good-new_event_in text)

good-write_xml_line : (words : List (List ℕ)) → AllOf IsGoodLine (write_xml_line words)
good-write_xml_line [] = tt
good-write_xml_line (a ∷ []) = tt
good-write_xml_line (source ∷ word ∷ words) =
    all_of-then _ IsGoodLine _ (source_word source) (good-source source) (λ s is_s.
    all_of-map _ IsGoodLine (λ event. WriteXml s event) (xml_event_words word words) (good-xml_event_words word words) (λ event may. (λ i. is_s i && may i, tt)))

good-only_source_words : (words : List (List ℕ)) → AllOf (λ s. is_source s ≡ true) (only_source_words words)
good-only_source_words [] = tt
good-only_source_words (source ∷ []) = good-source source
good-only_source_words (a ∷ b ∷ more) = tt

good-ask_line : (words : List (List ℕ)) → AllOf IsGoodLine (option_map (λ s. Ask s) (only_source_words words))
good-ask_line words = all_of-map _ IsGoodLine (λ s. Ask s) (only_source_words words) (good-only_source_words words) (λ s h. (h, tt))

good-shut_line : (words : List (List ℕ)) → AllOf IsGoodLine (option_map (λ s. Shut s) (only_source_words words))
good-shut_line words = all_of-map _ IsGoodLine (λ s. Shut s) (only_source_words words) (good-only_source_words words) (λ s h. (h, tt))

good-pair_words : (words : List (List ℕ)) → AllOf (λ pair. (is_source pair.0 && is_subscription pair.1) ≡ true) (pair_words words)
good-pair_words [] = tt
good-pair_words (a ∷ []) = tt
good-pair_words (source ∷ sub ∷ []) =
    all_of-then _ (λ pair. (is_source pair.0 && is_subscription pair.1) ≡ true) _ (source_word source) (good-source source) (λ s is_s.
    all_of-map _ (λ pair. (is_source pair.0 && is_subscription pair.1) ≡ true) (λ u. (s, u)) (subscription_word sub) (good-subscription sub) (λ u is_u i. is_s i && is_u i))
good-pair_words (a ∷ b ∷ c ∷ more) = tt

good-poll_line : (words : List (List ℕ)) → AllOf IsGoodLine (option_map (λ pair. Poll pair.0 pair.1) (pair_words words))
good-poll_line words = all_of-map _ IsGoodLine (λ pair. Poll pair.0 pair.1) (pair_words words) (good-pair_words words) (λ pair h. (h, tt))

good-lost_line : (words : List (List ℕ)) → AllOf IsGoodLine (option_map (λ pair. Lost pair.0 pair.1) (pair_words words))
good-lost_line words = all_of-map _ IsGoodLine (λ pair. Lost pair.0 pair.1) (pair_words words) (good-pair_words words) (λ pair h. (h, tt))

-- ---- messages

counts : (given : Option ℕ) → AllOf (λ n. is_between 0 MAX n ≡ true) given → AllOf (λ n. is_count n ≡ true) given
counts None h = tt
counts (Some n) h = count_from_between n h

good-only_number_words : (words : List (List ℕ)) → AllOf (λ n. is_count n ≡ true) (only_number_words words)
good-only_number_words [] = tt
good-only_number_words (number ∷ []) = counts (number_word 0 MAX number) (good-number 0 MAX number)
good-only_number_words (a ∷ b ∷ more) = tt

good-deliver_line : (words : List (List ℕ)) → AllOf IsGoodLine (deliver_line words)
good-deliver_line [] = tt
good-deliver_line (number ∷ words) =
    all_of-then _ IsGoodLine _ (number_word 0 MAX number) (counts (number_word 0 MAX number) (good-number 0 MAX number)) (λ n is_n.
    all_of-map (λ _. Unit {0}) IsGoodLine (λ seen. Deliver n seen) (seen_words words) (any (seen_words words)) (λ seen _. (is_n, tt)))

good-back_line : (words : List (List ℕ)) → AllOf IsGoodLine (option_map (λ n. Back n) (only_number_words words))
good-back_line words = all_of-map _ IsGoodLine (λ n. Back n) (only_number_words words) (good-only_number_words words) (λ n h. (h, tt))

good-request_line : (words : List (List ℕ)) → AllOf IsGoodLine (request_line words)
good-request_line [] = (refl, tt)
good-request_line (word ∷ words) = tt

good-forget_line : (words : List (List ℕ)) → AllOf IsGoodLine (forget_line words)
good-forget_line [] = (refl, tt)
good-forget_line (word ∷ words) = tt

-- ---- what is printed

good-show_line : (words : List (List ℕ)) → AllOf IsGoodLine (show_line words)
good-show_line [] = (refl, tt)
good-show_line (word ∷ words) = tt

good-print_line : (words : List (List ℕ)) → AllOf IsGoodLine (print_line words)
good-print_line [] = tt
good-print_line (a ∷ []) = tt
good-print_line (a ∷ b ∷ []) = tt
good-print_line (sub ∷ source ∷ channel ∷ []) =
    all_of-then _ IsGoodLine _ (subscription_word sub) (good-subscription sub) (λ u is_u.
    all_of-then _ IsGoodLine _ (source_word source) (good-source source) (λ s is_s.
    all_of-map _ IsGoodLine (λ c. Print u s c) (channel_word channel) (good-channel channel) (λ c is_c. (λ i. is_u i && is_s i && is_c i, tt))))
good-print_line (a ∷ b ∷ c ∷ d ∷ more) = tt

good-status_line : (words : List (List ℕ)) → AllOf IsGoodLine (option_map (λ u. Status u) (only_subscription_words words))
good-status_line words = all_of-map _ IsGoodLine (λ u. Status u) (only_subscription_words words) (good-only_subscription_words words) (λ u h. (h, tt))

-- ---- failures

good-end_word : (word : List ℕ) → AllOf (λ e. is_end e ≡ true) (end_word word)
good-end_word word =
    all_of-if (λ e. is_end e ≡ true) (same word (codes "collector")) (Some end.Collector) _ refl
    (all_of-map _ (λ e. is_end e ≡ true) (λ s. end.Source s) (sending_source_word word) (good-sending_source word) (λ s h. h))

good-crash_line : (words : List (List ℕ)) → AllOf IsGoodLine (crash_line words)
good-crash_line [] = tt
good-crash_line (end ∷ []) = all_of-map _ IsGoodLine (λ e. Crash e) (end_word end) (good-end_word end) (λ e h. (h, tt))
good-crash_line (a ∷ b ∷ more) = tt

-- an end and `before` or `after`
good-commit_words : (words : List (List ℕ)) → AllOf (λ commit. is_end commit.0 ≡ true) (commit_words words)
good-commit_words [] = tt
good-commit_words (a ∷ []) = tt
good-commit_words (end ∷ when ∷ []) =
    all_of-then _ (λ commit. is_end commit.0 ≡ true) _ (end_word end) (good-end_word end) (λ e is_e.
    all_of-map (λ _. Unit {0}) (λ commit. is_end commit.0 ≡ true) (λ after. (e, after)) (after_word when) (any (after_word when)) (λ after _. is_e))
good-commit_words (a ∷ b ∷ c ∷ more) = tt

good-fail_line : (words : List (List ℕ)) → AllOf IsGoodLine (option_map (λ commit. Fail commit.0 commit.1) (commit_words words))
good-fail_line words = all_of-map _ IsGoodLine (λ commit. Fail commit.0 commit.1) (commit_words words) (good-commit_words words) (λ commit h. (h, tt))

good-stop_line : (words : List (List ℕ)) → AllOf IsGoodLine (option_map (λ commit. Stop commit.0 commit.1) (commit_words words))
good-stop_line words = all_of-map _ IsGoodLine (λ commit. Stop commit.0 commit.1) (commit_words words) (good-commit_words words) (λ commit h. (h, tt))

good-calm_line : (words : List (List ℕ)) → AllOf IsGoodLine (calm_line words)
good-calm_line [] = (refl, tt)
good-calm_line (word ∷ words) = tt

-- ---- the moment

good-tick_line : (words : List (List ℕ)) → AllOf IsGoodLine (option_map (λ n. Tick n) (only_number_words words))
good-tick_line words = all_of-map _ IsGoodLine (λ n. Tick n) (only_number_words words) (good-only_number_words words) (λ n h. (h, tt))

-- ---- settling

good-settle_line : (words : List (List ℕ)) → AllOf IsGoodLine (settle_line words)
good-settle_line [] = (refl, tt)
good-settle_line (word ∷ words) = tt

-- ---- any line

good-failure_line_of : (kind : List ℕ) (words : List (List ℕ)) → AllOf IsGoodLine (failure_line_of kind words)
good-failure_line_of kind words =
    all_of-if IsGoodLine (same kind (codes "crash")) _ _ (good-crash_line words)
    (all_of-if IsGoodLine (same kind (codes "fail")) _ _ (good-fail_line words)
    (all_of-if IsGoodLine (same kind (codes "stop")) _ _ (good-stop_line words)
    (all_of-if IsGoodLine (same kind (codes "calm")) _ _ (good-calm_line words)
    (all_of-if IsGoodLine (same kind (codes "tick")) _ None (good-tick_line words) tt))))

good-message_line_of : (kind : List ℕ) (words : List (List ℕ)) → AllOf IsGoodLine (message_line_of kind words)
good-message_line_of kind words =
    all_of-if IsGoodLine (same kind (codes "deliver")) _ _ (good-deliver_line words)
    (all_of-if IsGoodLine (same kind (codes "back")) _ _ (good-back_line words)
    (all_of-if IsGoodLine (same kind (codes "settle")) _ _ (good-settle_line words) (good-failure_line_of kind words)))

good-source_line_of : (kind : List ℕ) (words : List (List ℕ)) → AllOf IsGoodLine (source_line_of kind words)
good-source_line_of kind words =
    all_of-if IsGoodLine (same kind (codes "source")) _ _ (good-source_line words)
    (all_of-if IsGoodLine (same kind (codes "write")) _ _ (good-write_line words)
    (all_of-if IsGoodLine (same kind (codes "writexml")) _ _ (good-write_xml_line words)
    (all_of-if IsGoodLine (same kind (codes "ask")) _ _ (good-ask_line words)
    (all_of-if IsGoodLine (same kind (codes "poll")) _ _ (good-poll_line words)
    (all_of-if IsGoodLine (same kind (codes "lost")) _ _ (good-lost_line words)
    (all_of-if IsGoodLine (same kind (codes "shut")) _ _ (good-shut_line words) (good-message_line_of kind words)))))))

good-collector_line_of : (kind : List ℕ) (words : List (List ℕ)) → AllOf IsGoodLine (collector_line_of kind words)
good-collector_line_of kind words =
    all_of-if IsGoodLine (same kind (codes "subscribe")) _ _ (good-subscribe_line words)
    (all_of-if IsGoodLine (same kind (codes "subscribeat")) _ _ (good-subscribe_at_line words)
    (all_of-if IsGoodLine (same kind (codes "end")) _ _ (good-end_line words)
    (all_of-if IsGoodLine (same kind (codes "request")) _ _ (good-request_line words)
    (all_of-if IsGoodLine (same kind (codes "forget")) _ _ (good-forget_line words)
    (all_of-if IsGoodLine (same kind (codes "show")) _ _ (good-show_line words)
    (all_of-if IsGoodLine (same kind (codes "print")) _ _ (good-print_line words)
    (all_of-if IsGoodLine (same kind (codes "status")) _ _ (good-status_line words) (good-source_line_of kind words))))))))

good-other_line : (words : List (List ℕ)) → AllOf IsGoodLine (other_line words)
good-other_line [] = tt
good-other_line (kind ∷ words) = good-collector_line_of kind words

good-line_of_words : (words : List (List ℕ)) → AllOf IsGoodLine (line_of_words words)
good-line_of_words [] = tt
good-line_of_words (kind ∷ words) = all_of-if IsGoodLine (same kind (codes "batch")) _ _ (good-batch_line words) (good-other_line (kind ∷ words))

pub good-meaning : (text : List ℕ) → AllOf (AllOf IsGoodLine) (meaning text)
good-meaning text =
    all_of-if (AllOf IsGoodLine) (is_utf8 text) _ None
    (all_of-if (AllOf IsGoodLine) (does_nothing text) (Some None) _ tt
    (all_of-map IsGoodLine (AllOf IsGoodLine) (λ line. Some line) (line_of_words (parts 32 text)) (good-line_of_words (parts 32 text)) (λ line h. h))) tt
