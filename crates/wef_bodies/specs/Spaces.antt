-- Texts that bodies hold as they are.
use Rattle.std.specs.Prelude.{ℕ, List, codes}
use Rattle.wef_envelope.specs.declared.actions.TheConstants.{ANONYMOUS, ENUMERATE, ENUMERATE_RESPONSE, EVENT_LOG, GET_STATUS, GET_STATUS_RESPONSE, RENEW, RENEW_RESPONSE, SUBSCRIBE, SUBSCRIBE_RESPONSE, SUBSCRIPTION_END, UNSUBSCRIBE, UNSUBSCRIBE_RESPONSE}
use Rattle.wef_bodies.specs.declared.statuses.TheConstants.{DELIVERY_FAILURE, SOURCE_CANCELING, SOURCE_SHUTTING_DOWN}

-- the actions of the messages whose bodies these are
unfoldable pub enumerate : List ℕ
enumerate = ENUMERATE.now

unfoldable pub enumerate_response : List ℕ
enumerate_response = ENUMERATE_RESPONSE.now

unfoldable pub subscribe : List ℕ
subscribe = SUBSCRIBE.now

unfoldable pub subscribe_response : List ℕ
subscribe_response = SUBSCRIBE_RESPONSE.now

unfoldable pub renew : List ℕ
renew = RENEW.now

unfoldable pub renew_response : List ℕ
renew_response = RENEW_RESPONSE.now

unfoldable pub get_status : List ℕ
get_status = GET_STATUS.now

unfoldable pub get_status_response : List ℕ
get_status_response = GET_STATUS_RESPONSE.now

unfoldable pub unsubscribe : List ℕ
unsubscribe = UNSUBSCRIBE.now

unfoldable pub unsubscribe_response : List ℕ
unsubscribe_response = UNSUBSCRIBE_RESPONSE.now

unfoldable pub subscription_end : List ℕ
subscription_end = SUBSCRIPTION_END.now

-- why a source ended a subscription
unfoldable pub delivery_failure : List ℕ
delivery_failure = DELIVERY_FAILURE.now

unfoldable pub source_shutting_down : List ℕ
source_shutting_down = SOURCE_SHUTTING_DOWN.now

unfoldable pub source_canceling : List ℕ
source_canceling = SOURCE_CANCELING.now

-- the address of whoever asked
unfoldable pub anonymous : List ℕ
anonymous = ANONYMOUS.now

-- the resource that the logs of a machine are
unfoldable pub event_log : List ℕ
event_log = EVENT_LOG.now

-- how many elements an answer to Enumerate may hold
unfoldable pub most_elements : List ℕ
most_elements = codes "32000"
